-- An accepted program: its commands at both settings of block delete, its machine and its tools.
-- Our own.
use Rattle.std.specs.Prelude.{◌≡◌, List, Option, Some, None, Result, Ok, Err, Bool}
use Rattle.std.specs.Prelude.{true, false}
use Rattle.ngc_machine_files.specs.Machine.{MachineFile}
use Rattle.ngc_machine_files.specs.MachineRanges.{IsMachine}
use Rattle.ngc_machine_files.specs.declared.tools.Tool.{Tool}
use Rattle.ngc_commands.specs.declared.command.Command.{Command}
use Rattle.ngc_canonical.specs.Meaning.{Program, meaning}
use Rattle.ngc_canonical.specs.State.{Setup}
use Rattle.ngc_certificate_text.specs.Certificate.{CertificateData}
use Rattle.ngc_job.specs.Job.{AreCommands}
use Rattle.ngc_certificate.specs.Valid.{IsValid}
use Rattle.ngc_checker.specs.declared.fault.CheckFault.{CheckFault}
use Rattle.ngc_checker.specs.declared.fault.CheckFault.TheVariants.{Memory}
use Rattle.ngc_checker.specs.declared.fault.CheckFault.TheVariants as faults
use Rattle.ngc_checker.specs.FirstRefusal.{first_refusal}

pub record AcceptedData : Type 0 where
  pub machine : MachineFile
  pub tools : List Tool
  pub off : List Command
  pub on : List Command

abbrev pub commands_at : Bool → AcceptedData → List Command
commands_at false a = a.off
commands_at true a = a.on

-- properties of every accepted program: there is a certificate that is valid for both settings
pub record IsAccepted (a : AcceptedData) : Type 0 where
  pub machine : IsMachine a.machine
  pub certificate : CertificateData
  pub off_valid : IsValid a.machine a.off certificate.off
  pub on_valid : IsValid a.machine a.on certificate.on
  pub off_commands : AreCommands a.machine.start a.off
  pub on_commands : AreCommands a.machine.start a.on

-- ---- the checker's result

-- it stores its inputs, and the commands are the program's
pub record Keeps (program : Program) (setup : Setup) (a : AcceptedData) : Type 0 where
  pub machine : a.machine ≡ setup.machine
  pub tools : a.tools ≡ setup.tools
  pub off : meaning program setup false ≡ Ok a.off
  pub on : meaning program setup true ≡ Ok a.on

-- the refusal is the first one; nothing is stated if memory ran out
abbrev pub IsFirst : CheckFault → Option CheckFault → Type 0
IsFirst Memory first = Unit {0}
IsFirst (faults.Program s e) first = first ≡ Some (faults.Program s e)
IsFirst (faults.MotionsDiffer s k) first = first ≡ Some (faults.MotionsDiffer s k)
IsFirst (faults.Start i) first = first ≡ Some (faults.Start i)
IsFirst (faults.Piece s k j e) first = first ≡ Some (faults.Piece s k j e)
IsFirst (faults.Divided s k) first = first ≡ Some (faults.Divided s k)
IsFirst (faults.ToolChange s k i) first = first ≡ Some (faults.ToolChange s k i)

-- the result is acceptance if nothing is refused, and otherwise the first refusal
abbrev pub Answers : {X : Type 0} → (X → AcceptedData) → Program → Setup → CertificateData →
    Result X CheckFault → Type 0
Answers view program setup c (Ok x) =
    (first_refusal program setup c ≡ None) × Keeps program setup (view x)
Answers view program setup c (Err e) = IsFirst e (first_refusal program setup c)

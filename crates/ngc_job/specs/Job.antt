-- A program that is ready to run on a machine: its commands with block delete off, and with block
-- delete on if these may differ. Our own.
use Rattle.std.specs.Prelude.{◌≡◌, ◌≤◌, List, length, Option, Some, None, is_some, Result, Ok, Err}
use Rattle.std.specs.Prelude.{Bool, true, false}
use Rattle.ngc_fixed_length.specs.declared.points.Point3.{Point3}
use Rattle.ngc_machine_files.specs.Machine.{MachineFile}
use Rattle.ngc_machine_files.specs.MachineRanges.{IsMachine}
use Rattle.ngc_machine_files.specs.declared.tools.Tool.{Tool}
use Rattle.ngc_commands.specs.declared.command.Command.{Command}
use Rattle.ngc_canonical.specs.declared.fault.ProgramFault.{ProgramFault}
use Rattle.ngc_canonical.specs.declared.fault.ProgramFault.TheVariants.{At, Memory}
use Rattle.ngc_commands.specs.Sequence.{HaveEvenRadii, EndIsLast, HasEnd}
use Rattle.ngc_canonical.specs.Meaning.{Program, has_deleted, meaning}
use Rattle.ngc_commands.specs.Movement.{actions_of, ways_of, AreJoined}
use Rattle.ngc_canonical.specs.State.{Setup}
use Rattle.ngc_commands.specs.Sequence.{COMMAND_LIMIT}
use Rattle.ngc_certificate_text.specs.declared.piece.Setting.{Setting}
use Rattle.ngc_certificate_text.specs.declared.piece.Setting.TheVariants.{Off, On}
use Rattle.ngc_job.specs.declared.job.JobFault.{JobFault}

pub record JobData : Type 0 where
  pub machine : MachineFile
  pub tools : List Tool
  pub off : List Command
  pub on : Option (List Command)

-- if nothing is stored for block delete on, the commands are those for off
abbrev pub on_or : List Command → Option (List Command) → List Command
on_or off None = off
on_or off (Some on) = on

abbrev pub commands_in : Bool → JobData → List Command
commands_in false j = j.off
commands_in true j = on_or j.off j.on

-- the commands of a setting: there are few enough, each motion begins at the end of the one before
-- it, each arc has even radii, the last command is the end, and nothing comes after an end
pub record AreCommands (start : Point3) (commands : List Command) : Type 0 where
  pub count : length commands ≤ COMMAND_LIMIT
  pub joined : AreJoined start (ways_of (actions_of commands))
  pub radii : HaveEvenRadii (ways_of (actions_of commands))
  pub ended : EndIsLast commands
  pub has_end : HasEnd commands

-- properties of every job
pub record IsJob (j : JobData) : Type 0 where
  pub machine : IsMachine j.machine
  pub off_commands : AreCommands j.machine.start j.off
  pub on_commands : AreCommands j.machine.start (commands_in true j)

-- ---- the job of a program

-- it stores its inputs; its commands are the program's meaning; those with block delete on are
-- stored separately if and only if a line begins with `/`
pub record IsJobOf (program : Program) (setup : Setup) (j : JobData) : Type 0 where
  pub machine : j.machine ≡ setup.machine
  pub tools : j.tools ≡ setup.tools
  pub off : meaning program setup false ≡ Ok j.off
  pub on : meaning program setup true ≡ Ok (commands_in true j)
  pub apart : is_some j.on ≡ has_deleted program.lines

-- the program is refused at a setting, and at `On` only if it isn't refused at `Off`; nothing is
-- stated if memory ran out
abbrev pub IsRefusedAt : Program → Setup → Setting → ProgramFault → Type 0
IsRefusedAt program setup s Memory = Unit {0}
IsRefusedAt program setup Off (At line e) = meaning program setup false ≡ Err (At line e)
IsRefusedAt program setup On (At line e) = (off : List Command) ×
    (meaning program setup false ≡ Ok off) × (meaning program setup true ≡ Err (At line e))

-- the result is the job of the program, or why it has none
abbrev pub JobResultIs : {X : Type 0} → (X → JobData) → Program → Setup → Result X JobFault → Type 0
JobResultIs view program setup (Ok x) = IsJobOf program setup (view x)
JobResultIs view program setup (Err refusal) =
    IsRefusedAt program setup refusal.setting refusal.fault

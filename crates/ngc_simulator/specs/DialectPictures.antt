-- The picture of a program for another control. Our own.
use Rattle.std.specs.Prelude.{◌≡◌, ℕ, List, Option, None, Result, Ok, Err, Bool, IfSome}
use Rattle.std.specs.Io.KnownBytes.{Keeps}
use Rattle.ngc_canonical.specs.State.{Setup}
use Rattle.ngc_certificate_text.specs.Certificate.{CertificateData}
use Rattle.ngc_certificate_text.specs.ParsedPart.{parsed_certificate}
use Rattle.ngc_commands.specs.declared.command.Command.{Command}
use Rattle.ngc_dialect_execution.specs.Program.{meaning_in}
use Rattle.ngc_dialect_names.specs.declared.dialect.Dialect.{Dialect}
use Rattle.ngc_picture_shapes.specs.declared.look.Look.{Look}
use Rattle.ngc_inputs.specs.Jobs.{IsNoCertificate}
use Rattle.ngc_inputs.specs.declared.fault.AnswerFault.{AnswerFault}
use Rattle.ngc_inputs.specs.declared.fault.AnswerFault.TheVariants as answers
use Rattle.ngc_machine_files.specs.Machine.{MachineFile}
use Rattle.ngc_program_report.specs.Coordinates.{History}
use Rattle.ngc_simulator.specs.DialectReports.{dialect_frames}
use Rattle.ngc_simulator.specs.Dialects.{NotesFault}
use Rattle.ngc_simulator.specs.Drawing.{DrawsCertified, DrawsCommands}
use Rattle.ngc_simulator.specs.declared.done.Done.{Done}
use Rattle.ngc_simulator.specs.declared.done.Done.TheVariants.{Quietly, RunThrough, WithNotes}

-- Does of the commands of a program's text at a setting of block delete; a refused program leaves the
-- output unchanged, and notes say why. Lack of memory shows nothing.
abbrev pub OnDialectCommands : Dialect → Setup → Bool → List ℕ → Option (List ℕ) →
    Option (List ℕ) → (List Command → Result (Unit {0}) AnswerFault → Type 0) →
    Result Done AnswerFault → Type 0
OnDialectCommands d setup block_delete source old new Does (Ok Quietly) =
    (commands : List Command) × (meaning_in d setup block_delete source ≡ Ok commands)
    × Does commands (Ok tt)
OnDialectCommands d setup block_delete source old new Does (Ok (RunThrough time)) = ⊥
OnDialectCommands d setup block_delete source old new Does (Ok (WithNotes notes)) =
    NotesFault d setup block_delete source None notes × Keeps old new
OnDialectCommands d setup block_delete source old new Does (Err answers.Memory) = Keeps old new
OnDialectCommands d setup block_delete source old new Does (Err fault) =
    (commands : List Command) × (meaning_in d setup block_delete source ≡ Ok commands)
    × Does commands (Err fault)

-- without a certificate
abbrev pub DrawsDialect : Dialect → Setup → Bool → List ℕ → Look → Option (List ℕ) →
    Option (List ℕ) → Result Done AnswerFault → Type 0
DrawsDialect d setup block_delete source look old new outcome =
    OnDialectCommands d setup block_delete source old new
    (λ commands. DrawsCommands setup.machine look (dialect_frames d setup block_delete source)
    commands old new) outcome

-- the picture of commands by a certificate's text; a text that isn't a certificate leaves the output
-- unchanged
abbrev pub DrawsByText : MachineFile → Bool → Look → List ℕ → History → List Command →
    Option (List ℕ) → Option (List ℕ) → Result (Unit {0}) AnswerFault → Type 0
DrawsByText machine block_delete look text frames commands old new (Err (answers.Certificate fault)) =
    IsNoCertificate text fault × Keeps old new
DrawsByText machine block_delete look text frames commands old new outcome =
    (c : CertificateData) × (parsed_certificate text ≡ Ok c)
    × DrawsCertified machine block_delete look c frames commands old new outcome

-- with a certificate, by its bytes, where they are known
abbrev pub DrawsDialectBy : Dialect → Setup → Bool → List ℕ → Look → Option (List ℕ) →
    Option (List ℕ) → Option (List ℕ) → Result Done AnswerFault → Type 0
DrawsDialectBy d setup block_delete source look certificate old new outcome =
    OnDialectCommands d setup block_delete source old new
    (λ commands o. IfSome certificate (λ text. DrawsByText setup.machine block_delete look text
    (dialect_frames d setup block_delete source) commands old new o)) outcome

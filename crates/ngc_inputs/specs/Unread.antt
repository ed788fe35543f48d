-- Which file isn't read, and why. Our own.
use Rattle.std.specs.Prelude.{◌≡◌, ◌<◌, ◌⊎◌, ℕ, List, [], ◌∷◌, ◌++◌, length, Option, Some, None}
use Rattle.std.specs.Prelude.{MatchOption, Result, Ok, Err, IsOk, IfSome}
use Rattle.ngc_certificate_text.specs.ParsedPart.{parsed_certificate}
use Rattle.ngc_certificate_text.specs.declared.fault.CertificateFault.{CertificateFault}
use Rattle.ngc_certificate_text.specs.declared.fault.CertificateFault.TheVariants as texts
use Rattle.ngc_events.specs.Events.{parsed_events}
use Rattle.ngc_text.specs.Failures.{Rises}
use Rattle.ngc_text.specs.declared.input_fault.InputFault.{InputFault}
use Rattle.ngc_text.specs.declared.input_fault.InputFault.TheVariants as inputs
use Rattle.ngc_line_reader.specs.ProgramText.{program_of}
use Rattle.ngc_line_reader.specs.declared.program.fault.ReadFault.{ReadFault}
use Rattle.ngc_line_reader.specs.declared.program.fault.ReadFault.TheVariants as reads
use Rattle.ngc_written_machines.specs.Reading.{any_machine}
use Rattle.ngc_written_tools.specs.Reading.{any_tools}
use Rattle.ngc_inputs.specs.declared.fault.AnswerFault.{AnswerFault}
use Rattle.ngc_inputs.specs.declared.fault.AnswerFault.TheVariants as answers
use Rattle.ngc_inputs.specs.declared.setup.TheConstants.{FILE_LIMIT}
use Rattle.ngc_inputs.specs.Setups.{FileBytes}

-- ---- the files of a command

-- what a file is read as
pub data Kind : Type 0 where
  OfMachine : Kind
  OfTools : Kind
  OfProgram : Kind
  OfCertificate : Kind
  OfEvents : Kind
  OfSource : Kind

-- what a text is read as is not refused
abbrev pub IsReadAs : Kind → List ℕ → Type 0
IsReadAs OfMachine text = IsOk (any_machine text)
IsReadAs OfTools text = IsOk (any_tools text)
IsReadAs OfProgram text = IsOk (program_of text)
IsReadAs OfCertificate text = IsOk (parsed_certificate text)
IsReadAs OfEvents text = IsOk (parsed_events text)
IsReadAs OfSource text = Unit {0}

-- a file that a command reads: what it is read as, and its name, or standard input
pub record Input : Type 0 where
  pub kind : Kind
  pub name : Option (List ℕ)

-- a machine file or a tool table, where one is named
abbrev pub setup_input : Kind → Option (List ℕ) → List Input
setup_input kind None = []
setup_input kind (Some name) = record { kind = kind; name = Some name } ∷ []

abbrev pub shop_inputs : Option (List ℕ) → Option (List ℕ) → List Input
shop_inputs machine tools = setup_input OfMachine machine ++ setup_input OfTools tools

-- P of one of these files, and those before it are read and not refused
abbrev pub AtFirst : (Kind → Option (List ℕ) → Type 0) → FileBytes → List Input → Type 0
AtFirst P bytes [] = ⊥
AtFirst P bytes (input ∷ more) =
    P input.kind (bytes input.name) ⊎
    (IfSome (bytes input.name) (IsReadAs input.kind) × AtFirst P bytes more)

-- ---- why a file isn't read

-- a source that had these bytes when it was opened failed later
pub record SourceFails {S : Type 0} (remaining : S → Option (List ℕ)) (failures : S → ℕ)
    (known : Option (List ℕ)) : Type 0 where
  pub opened : S
  pub left : S
  pub gave : remaining opened ≡ known
  pub fails : Rises (failures opened) (failures left)

-- a file with these bytes couldn't be opened, which is counted, or its source failed
abbrev pub IsUnread : (Option (List ℕ) → Type 0) → Option (List ℕ) → ℕ → ℕ → Type 0
IsUnread fails known old new = Rises old new ⊎ ((new ≡ old) × fails known)

-- the consequences of the report that a file can't be read completely
abbrev pub ReportsUnread : (Option (List ℕ) → Type 0) → Option (List ℕ) → ℕ → ℕ → InputFault → Type 0
ReportsUnread fails known old new inputs.Memory = new ≡ old
ReportsUnread fails known old new inputs.Device = IsUnread fails known old new
ReportsUnread fails known old new inputs.TooLong =
    (new ≡ old) × IfSome known (λ bytes. FILE_LIMIT < length bytes)

-- the same for a file that is read as this kind; a program and a certificate are never too long
abbrev pub ReportsKindUnread : (Option (List ℕ) → Type 0) → Kind → Option (List ℕ) → ℕ → ℕ →
    InputFault → Type 0
ReportsKindUnread fails OfProgram known old new inputs.TooLong = ⊥
ReportsKindUnread fails OfCertificate known old new inputs.TooLong = ⊥
ReportsKindUnread fails kind known old new fault = ReportsUnread fails known old new fault

-- the first of these files that isn't read
abbrev pub ReportsFirstUnread : (Option (List ℕ) → Type 0) → FileBytes → List Input → ℕ → ℕ →
    InputFault → Type 0
ReportsFirstUnread fails bytes files old new fault =
    AtFirst (λ kind known. ReportsKindUnread fails kind known old new fault) bytes files

-- ---- faults and unread files: 901, and 900 where a file is read completely; any other fault means
-- that all opened files were read

abbrev pub program_unread : ReadFault → Option InputFault
program_unread (reads.Line line fault) = None
program_unread reads.NoEnd = None
program_unread reads.TooManyLines = None
program_unread reads.Memory = None
program_unread reads.Device = Some inputs.Device

abbrev pub certificate_unread : CertificateFault → Option InputFault
certificate_unread texts.Memory = None
certificate_unread texts.ReadFailed = Some inputs.Device
certificate_unread texts.WrongHeader = None
certificate_unread (texts.BadLine line) = None
certificate_unread (texts.OutOfRange line) = None

abbrev pub unread_by : AnswerFault → Option InputFault
unread_by (answers.Input fault) = Some fault
unread_by (answers.Read fault) = program_unread fault
unread_by (answers.Certificate fault) = certificate_unread fault
unread_by _ = None

-- The count of files that couldn't be opened increased if one couldn't, and is unchanged otherwise.
-- If the result says that a file isn't read, the first such file has that fault.
abbrev pub FailsBy : {T E : Type 0} → (E → Option InputFault) → (Option (List ℕ) → Type 0) →
    FileBytes → List Input → ℕ → ℕ → Result T E → Type 0
FailsBy unread fails bytes files old new (Ok value) = new ≡ old
FailsBy unread fails bytes files old new (Err fault) =
    MatchOption (unread fault) (new ≡ old) (ReportsFirstUnread fails bytes files old new)

abbrev pub FailsByInput : {T : Type 0} → (Option (List ℕ) → Type 0) → FileBytes → List Input → ℕ →
    ℕ → Result T AnswerFault → Type 0
FailsByInput fails bytes files old new outcome = FailsBy unread_by fails bytes files old new outcome

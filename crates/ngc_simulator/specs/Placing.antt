-- The result of finding at which shifts of an origin a program fits. Our own.
use Rattle.std.specs.Prelude.{◌≡◌, ℕ, List, Option, Some, None, Result, Ok, Err, slice_get}
use Rattle.std.specs.Io.KnownBytes.{Appends, Keeps}
use Rattle.ngc_text.specs.Written.{AppendsPrefix}
use Rattle.ngc_fixed_length.specs.declared.modes.System.{System}
use Rattle.ngc_line_reader.specs.ProgramText.{program_of}
use Rattle.ngc_line_reader.specs.ProgramView.{FaultIs}
use Rattle.ngc_machine_files.specs.Machine.{MachineFile}
use Rattle.ngc_commands.specs.declared.command.Command.{Command}
use Rattle.ngc_canonical.specs.State.{Setup}
use Rattle.ngc_canonical.specs.Meaning.{Program as ProgramLines}
use Rattle.ngc_certificate_text.specs.Certificate.{CertificateData}
use Rattle.ngc_certificate.specs.declared.fault.MakeFault.TheVariants.{NotCleared, Memory}
use Rattle.ngc_job.specs.Job.{JobData, IsJobOf, commands_in}
use Rattle.ngc_report.specs.declared.form.Form.{Form}
use Rattle.ngc_report.specs.declared.form.Form.TheVariants.{Words, Json}
use Rattle.ngc_program_report.specs.Texts.{is_on}
use Rattle.ngc_shifted_program.specs.Executions.{Execution, execution_of}
use Rattle.ngc_place_report.specs.Texts.{document_text, words_text}
use Rattle.ngc_place_report.specs.Findings.{IsPlacement}
use Rattle.ngc_place_report.specs.declared.placement.Here.{Here}
use Rattle.ngc_place_report.specs.declared.placement.Here.TheVariants as heres
use Rattle.ngc_place_report.specs.declared.placement.Placement.{Placement}
use Rattle.ngc_inputs.specs.declared.fault.AnswerFault.{AnswerFault}
use Rattle.ngc_inputs.specs.declared.fault.AnswerFault.TheVariants as answers
use Rattle.ngc_inputs.specs.Jobs.{IsMadeOf, IsProgram, IsUnmade, WhyNotMade}
use Rattle.ngc_simulator.specs.declared.place_request.PlaceRequest.{PlaceRequest}

abbrev pub placement_text : Form → MachineFile → System → Placement → List ℕ
placement_text Words machine system p = words_text machine system p
placement_text Json machine system p = document_text machine system p

-- the program line of a command, 0 without one
abbrev pub line_of : Option Command → ℕ
line_of None = 0
line_of (Some c) = c.line

-- a certificate is made for a job where its origin is; or the first command that isn't cleared is
-- of this line
abbrev pub IsHere : JobData → ℕ → Here → Type 0
IsHere j cuts heres.Fits = (c : CertificateData) × IsMadeOf j cuts c
IsHere j cuts (heres.NotCleared s line) = (k : ℕ) × IsUnmade j cuts (NotCleared s k)
    × (line ≡ line_of (slice_get (commands_in (is_on s) j) k))

-- what is written of a job, whose program does this
pub record IsPlacedText (does : Execution) (job : JobData) (request : PlaceRequest) (text : List ℕ) :
    Type 0 where
  pub here : Here
  pub is_here : IsHere job request.cuts here
  pub placement : Placement
  pub is_placement : IsPlacement does job request.system here request.cuts placement
  pub tells : text ≡ placement_text request.form job.machine request.system placement

-- the faults of finding and writing that
abbrev pub OfPlacing : AnswerFault → Type 0
OfPlacing (answers.Make Memory) = Unit {0}
OfPlacing (answers.Write fault) = Unit {0}
OfPlacing _ = ⊥

-- Of a job and a sink: the text was written, or a prefix of it if the sink failed; if memory runs out,
-- nothing was written.
abbrev pub PlacesJob : Execution → JobData → PlaceRequest → Option (List ℕ) → Option (List ℕ) →
    Result (Unit {0}) AnswerFault → Type 0
PlacesJob does job request old new (Ok u) =
    (text : List ℕ) × IsPlacedText does job request text × Appends old new text
PlacesJob does job request old new (Err (answers.Make Memory)) = Keeps old new
PlacesJob does job request old new (Err (answers.Write fault)) =
    (text : List ℕ) × IsPlacedText does job request text × AppendsPrefix old new text
PlacesJob does job request old new (Err _) = ⊥

-- what is written of a file's program
pub record IsPlaceText (setup : Setup) (bytes : List ℕ) (request : PlaceRequest) (text : List ℕ) :
    Type 0 where
  pub program : ProgramLines
  pub is_program : IsProgram bytes program
  pub job : JobData
  pub is_job : IsJobOf program setup job
  pub places : IsPlacedText (execution_of program) job request text

-- Of a program's file and a sink: the text was written, or a prefix of it if the sink failed. For a
-- program that can't be read or is refused, and if memory runs out, nothing was written.
abbrev pub PlaceWritten : Setup → List ℕ → PlaceRequest → Option (List ℕ) → Option (List ℕ) →
    Result (Unit {0}) AnswerFault → Type 0
PlaceWritten setup bytes request old new (Ok u) =
    (text : List ℕ) × IsPlaceText setup bytes request text × Appends old new text
PlaceWritten setup bytes request old new (Err (answers.Read fault)) =
    FaultIs fault (program_of bytes) × Keeps old new
PlaceWritten setup bytes request old new (Err (answers.Refused s fault)) =
    WhyNotMade setup bytes request.cuts (answers.Refused s fault) × Keeps old new
PlaceWritten setup bytes request old new (Err (answers.Make Memory)) = Keeps old new
PlaceWritten setup bytes request old new (Err (answers.Write fault)) =
    (text : List ℕ) × IsPlaceText setup bytes request text × AppendsPrefix old new text
PlaceWritten setup bytes request old new (Err _) = ⊥

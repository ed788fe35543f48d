-- The result of reporting whether a program fits. Our own.
use Rattle.std.specs.Prelude.{◌≡◌, ◌⊎◌, ℕ, List, Option}
use Rattle.std.specs.Prelude.{Result, Ok, Err, Bool, true, false}
use Rattle.std.specs.Io.KnownBytes.{Appends, Keeps}
use Rattle.ngc_file_figures.specs.Files.{values_of}
use Rattle.ngc_text.specs.Written.{AppendsPrefix}
use Rattle.ngc_line_reader.specs.ProgramText.{program_of}
use Rattle.ngc_line_reader.specs.ProgramView.{FaultIs}
use Rattle.ngc_commands.specs.declared.command.Command.{Command}
use Rattle.ngc_canonical.specs.declared.fault.ProgramFault.{ProgramFault}
use Rattle.ngc_canonical.specs.State.{Setup}
use Rattle.ngc_canonical.specs.Meaning.{NumberedLine, Program as ProgramLines, has_deleted}
use Rattle.ngc_certificate_text.specs.declared.piece.Setting.{Setting}
use Rattle.ngc_certificate_text.specs.declared.piece.Setting.TheVariants.{Off, On}
use Rattle.ngc_certificate_text.specs.Certificate.{CertificateData}
use Rattle.ngc_certificate.specs.declared.fault.MakeFault.TheVariants.{NotCleared, Memory}
use Rattle.ngc_certificate.specs.Made.{IsMade}
use Rattle.ngc_certificate.specs.Uncleared.{AreUncleared}
use Rattle.ngc_inputs.specs.declared.fault.AnswerFault.{AnswerFault}
use Rattle.ngc_inputs.specs.declared.fault.AnswerFault.TheVariants as answers
use Rattle.ngc_inputs.specs.Jobs.{AreMeanings, IsMadeFor, IsMadeOf, IsProgram, IsRefusedAt, IsUnmade}
use Rattle.ngc_frames.specs.Changes.{frame_changes, start_frame}
use Rattle.ngc_program_report.specs.Coordinates.{History, history_of}
use Rattle.ngc_program_report.specs.Framed.{FramedData}
use Rattle.ngc_program_report.specs.JobReports.{IsFitText, IsRefusalText, IsStartClear, OffBegins}
use Rattle.ngc_program_report.specs.JobReports.{OnBegins}
use Rattle.ngc_program_report.specs.Reported.{ReportedLines, own_lines}
use Rattle.ngc_program_report.specs.Texts.{AreFindings, Findings, commands_of, fault_text, fits_text, is_on}
use Rattle.ngc_program_report.specs.Texts.{refusal_text, refusals_text}
use Rattle.ngc_program_report.specs.declared.request.ReportRequest.{ReportRequest}

-- ---- jobs

-- the report of a job of which a certificate is made, for a program with these lines
pub record IsJobFit (f : FramedData) (lines : ReportedLines) (request : ReportRequest)
    (text : List ℕ) : Type 0 where
  pub certificate : CertificateData
  pub made : IsMadeOf f.job request.cuts certificate
  pub tells : IsFitText f certificate request.form request.origins request.cells lines text

-- the report of one of which command k isn't cleared at a setting
pub record IsJobMisfit (f : FramedData) (lines : ReportedLines) (request : ReportRequest)
    (s : Setting) (k : ℕ) (text : List ℕ) : Type 0 where
  pub unmade : IsUnmade f.job request.cuts (NotCleared s k)
  pub tells : IsRefusalText request.all f request s k lines text

-- From what the sink had taken to what it has taken now: the report of a job that fits was written, or
-- the report of the obstacle, whose fault is returned; or a prefix of one of them if the sink failed.
-- If memory ran out, the output is unchanged.
abbrev pub ReportsJob : FramedData → ReportedLines → ReportRequest → Option (List ℕ) →
    Option (List ℕ) → Result (Unit {0}) AnswerFault → Type 0
ReportsJob f lines request old new (Ok u) =
    (text : List ℕ) × IsJobFit f lines request text × Appends old new text
ReportsJob f lines request old new (Err (answers.Make (NotCleared s k))) =
    (text : List ℕ) × IsJobMisfit f lines request s k text × Appends old new text
ReportsJob f lines request old new (Err (answers.Make Memory)) = Keeps old new
ReportsJob f lines request old new (Err (answers.Write fault)) =
    (text : List ℕ) × (IsJobFit f lines request text ⊎
    ((s : Setting) × (k : ℕ) × IsJobMisfit f lines request s k text)) × AppendsPrefix old new text
ReportsJob f lines request old new (Err _) = ⊥

-- ---- programs in our own language

-- the frames of a program at a setting
abbrev pub frames_of : Setup → List NumberedLine → Setting → History
frames_of setup lines s = history_of (start_frame setup) (frame_changes setup lines (is_on s))

-- the report of a file's program for which a certificate is made
pub record IsFitReport (setup : Setup) (bytes : List ℕ) (request : ReportRequest) (text : List ℕ) :
    Type 0 where
  pub certificate : CertificateData
  pub made : IsMadeFor setup bytes request.cuts certificate
  pub off_found : Findings
  pub off_are : AreFindings request.cells (values_of request.figures).tools setup.machine made.off off_found
  pub on_found : Findings
  pub on_are : AreFindings request.cells (values_of request.figures).tools setup.machine made.on on_found
  pub tells : text ≡ fits_text request.form request.origins
      (has_deleted made.means.program.lines) setup made.off made.on certificate off_found on_found
      (frames_of setup made.means.program.lines Off) (frames_of setup made.means.program.lines On)
      (own_lines (values_of request.figures) made.means.is_program.text.lines)

-- the report of one of which command k isn't cleared at a setting
pub record IsFirstReport (setup : Setup) (bytes : List ℕ) (request : ReportRequest) (s : Setting)
    (k : ℕ) (text : List ℕ) : Type 0 where
  pub off : List Command
  pub on : List Command
  pub means : AreMeanings setup bytes off on
  pub made : IsMade setup.machine request.cuts off on (Err (NotCleared s k))
  pub tells : text ≡ refusal_text request.form request.origins
      (has_deleted means.program.lines) s setup (commands_of s off on) k
      (own_lines (values_of request.figures) means.is_program.text.lines) (frames_of setup means.program.lines s)

-- the report of all commands that aren't cleared, at either setting: at least command k of that
-- setting, or the start point
pub record IsAllReport (setup : Setup) (bytes : List ℕ) (request : ReportRequest) (s : Setting)
    (k : ℕ) (text : List ℕ) : Type 0 where
  pub off : List Command
  pub on : List Command
  pub means : AreMeanings setup bytes off on
  pub made : IsMade setup.machine request.cuts off on (Err (NotCleared s k))
  pub off_ks : List ℕ
  pub off_uncleared : AreUncleared setup.machine request.cuts off off_ks
  pub off_begins : IsStartClear setup.machine →
      OffBegins (has_deleted means.program.lines) s k off_ks
  pub on_ks : List ℕ
  pub on_uncleared : AreUncleared setup.machine request.cuts on on_ks
  pub on_begins : IsStartClear setup.machine → OnBegins s k on_ks
  pub tells : text ≡ refusals_text request.form request.origins
      (has_deleted means.program.lines) setup off on
      (frames_of setup means.program.lines Off) (frames_of setup means.program.lines On)
      off_ks on_ks (own_lines (values_of request.figures) means.is_program.text.lines)

abbrev pub IsReportOf : Bool → Setup → List ℕ → ReportRequest → Setting → ℕ → List ℕ → Type 0
IsReportOf false setup bytes request s k text = IsFirstReport setup bytes request s k text
IsReportOf true setup bytes request s k text = IsAllReport setup bytes request s k text

abbrev pub IsRefusalReport : Setup → List ℕ → ReportRequest → Setting → ℕ → List ℕ → Type 0
IsRefusalReport setup bytes request s k text = IsReportOf request.all setup bytes request s k text

-- the report of one that is refused at a setting, at a line
pub record IsRejectionReport (setup : Setup) (bytes : List ℕ) (request : ReportRequest)
    (s : Setting) (fault : ProgramFault) (text : List ℕ) : Type 0 where
  pub program : ProgramLines
  pub is_program : IsProgram bytes program
  pub refused : IsRefusedAt setup program s fault
  pub tells : text ≡ fault_text request.form request.origins
      (has_deleted program.lines) s fault is_program.text.lines

-- one of them
abbrev pub IsReport : Setup → List ℕ → ReportRequest → List ℕ → Type 0
IsReport setup bytes request text =
    IsFitReport setup bytes request text ⊎
    (((s : Setting) × (k : ℕ) × IsRefusalReport setup bytes request s k text)
    ⊎ ((s : Setting) × (fault : ProgramFault) × IsRejectionReport setup bytes request s fault text))

-- Of a program's file and a sink: the report of a program that fits was written, or the report of
-- the obstacle or of the refused line, whose fault is returned; or a prefix of one of them if the
-- sink failed. Where there is none, the output is unchanged.
abbrev pub Reports : Setup → List ℕ → ReportRequest → Option (List ℕ) → Option (List ℕ) →
    Result (Unit {0}) AnswerFault → Type 0
Reports setup bytes request old new (Ok u) =
    (text : List ℕ) × IsFitReport setup bytes request text × Appends old new text
Reports setup bytes request old new (Err (answers.Read fault)) =
    FaultIs fault (program_of bytes) × Keeps old new
Reports setup bytes request old new (Err (answers.Refused s fault)) =
    (text : List ℕ) × IsRejectionReport setup bytes request s fault text × Appends old new text
Reports setup bytes request old new (Err (answers.Make (NotCleared s k))) =
    (text : List ℕ) × IsRefusalReport setup bytes request s k text × Appends old new text
Reports setup bytes request old new (Err (answers.Make Memory)) = Keeps old new
Reports setup bytes request old new (Err (answers.Write fault)) =
    (text : List ℕ) × IsReport setup bytes request text × AppendsPrefix old new text
Reports setup bytes request old new (Err _) = ⊥

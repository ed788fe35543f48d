-- The text of the report of a job. Our own.
use Rattle.std.specs.Prelude.{◌≡◌, ℕ, List, [], Option, None, is_some, Result, Ok, Err, Bool}
use Rattle.std.specs.Prelude.{true, false, IsTrue}
use Rattle.std.specs.List.{list_all}
use Rattle.std.specs.Io.KnownBytes.{Appends, Keeps}
use Rattle.ngc_origins.specs.Texts.{OriginList}
use Rattle.ngc_text.specs.Failures.{Rises}
use Rattle.ngc_text.specs.Written.{AppendsPrefix}
use Rattle.ngc_fixed_length.specs.Grid.{grid}
use Rattle.ngc_machine_files.specs.Machine.{MachineFile}
use Rattle.ngc_machine_files.specs.MachineRanges.{IsMachine}
use Rattle.ngc_commands.specs.declared.command.Command.{Command}
use Rattle.ngc_certificate_text.specs.declared.piece.Setting.{Setting}
use Rattle.ngc_certificate_text.specs.declared.piece.Setting.TheVariants.{Off, On}
use Rattle.ngc_certificate_text.specs.Certificate.{CertificateData, Entry}
use Rattle.ngc_certificate.specs.PieceFault.{place_fault}
use Rattle.ngc_certificate.specs.Uncleared.{AreUncleared, BeginsWith}
use Rattle.ngc_certificate.specs.Valid.{IsValid}
use Rattle.ngc_job.specs.Job.{JobData, commands_in}
use Rattle.ngc_report.specs.Reports.{fit_lines, is_line_inside}
use Rattle.ngc_report.specs.declared.form.Form.{Form}
use Rattle.ngc_report.specs.declared.report_fault.ReportFault.{ReportFault}
use Rattle.ngc_report.specs.declared.report_fault.ReportFault.TheVariants as faults
use Rattle.ngc_program_report.specs.declared.request.ReportRequest.{ReportRequest}
use Rattle.ngc_program_report.specs.Coordinates.{History}
use Rattle.ngc_program_report.specs.Framed.{FramedData, frames_in, setup_in}
use Rattle.ngc_program_report.specs.Reported.{ReportedLines}
use Rattle.ngc_program_report.specs.Texts.{AreFindings, Findings, fits_text, is_on, refusal_text, refusals_text}

-- the report of a job with this certificate, in its frames, for a program with these lines; the material
-- is divided into at most `cells` cells
pub record IsFitText (f : FramedData) (c : CertificateData) (form : Form) (origins : OriginList)
    (cells : ℕ) (lines : ReportedLines) (text : List ℕ) : Type 0 where
  pub off_found : Findings
  pub off_are : AreFindings cells lines.figures.tools f.job.machine f.job.off off_found
  pub on_found : Findings
  pub on_are : AreFindings cells lines.figures.tools f.job.machine (commands_in true f.job) on_found
  pub tells : text ≡ fits_text form origins (is_some f.job.on) (setup_in f.job) f.job.off
      (commands_in true f.job) c off_found on_found f.off f.on lines

-- the report of a program with a valid certificate has no negative margin
abbrev pub ValidStaysInside : Type 0
ValidStaysInside = (machine : MachineFile) (commands : List Command) (motions : List Entry) →
    IsMachine machine → IsValid machine commands motions →
    IsTrue (list_all is_line_inside (fit_lines machine commands motions))

-- at the start, without a tool, no fixture is met
abbrev pub IsStartClear : MachineFile → Type 0
IsStartClear machine = place_fault machine None (grid machine.step machine.start) ≡ None

-- If no certificate is made because of command `k` at a setting, that command is the first that
-- isn't cleared there. If it is refused at `On`, all commands are cleared with block delete off,
-- unless both settings have the same commands.
abbrev pub OffBegins : Bool → Setting → ℕ → List ℕ → Type 0
OffBegins true On k ks = ks ≡ []
OffBegins apart s k ks = BeginsWith k ks

abbrev pub OnBegins : Setting → ℕ → List ℕ → Type 0
OnBegins Off k ks = Unit {0}
OnBegins On k ks = BeginsWith k ks

-- the report of all commands that aren't cleared, at either setting, if no certificate is made
-- because of command `k` at a setting
pub record IsRefusalsText (f : FramedData) (cuts : ℕ) (s : Setting) (k : ℕ) (form : Form)
    (origins : OriginList) (lines : ReportedLines) (text : List ℕ) : Type 0 where
  pub off_ks : List ℕ
  pub off_uncleared : AreUncleared f.job.machine cuts f.job.off off_ks
  pub off_begins : IsStartClear f.job.machine → OffBegins (is_some f.job.on) s k off_ks
  pub on_ks : List ℕ
  pub on_uncleared : AreUncleared f.job.machine cuts (commands_in true f.job) on_ks
  pub on_begins : IsStartClear f.job.machine → OnBegins s k on_ks
  pub tells : text ≡ refusals_text form origins (is_some f.job.on) (setup_in f.job) f.job.off
      (commands_in true f.job) f.off f.on off_ks on_ks lines

-- the report of only command `k`, which isn't cleared at a setting
abbrev pub first_text : JobData → Form → OriginList → Setting → ℕ → ReportedLines → History →
    List ℕ
first_text j form origins s k lines h =
    refusal_text form origins (is_some j.on) s (setup_in j) (commands_in (is_on s) j) k lines h

-- the report of a job whose command `k` isn't cleared: of all such commands, or of only that one
abbrev pub IsRefusalText : Bool → FramedData → ReportRequest → Setting → ℕ → ReportedLines →
    List ℕ → Type 0
IsRefusalText true f request s k lines text =
    IsRefusalsText f request.cuts s k request.form request.origins lines text
IsRefusalText false f request s k lines text =
    text ≡ first_text f.job request.form request.origins s k lines (frames_in s f)

-- this text was written, or a prefix of it if the sink failed; or memory ran out, and nothing was
-- written
abbrev pub Prints : (List ℕ → Type 0) → Option (List ℕ) → Option (List ℕ) →
    Result (Unit {0}) ReportFault → Type 0
Prints IsText old new (Ok u) = (text : List ℕ) × IsText text × Appends old new text
Prints IsText old new (Err faults.Memory) = Keeps old new
Prints IsText old new (Err (faults.Write fault)) =
    (text : List ℕ) × IsText text × AppendsPrefix old new text

-- the sink's count of failures rose if a write failed, and is unchanged otherwise
abbrev pub FailsByWriting : Result (Unit {0}) ReportFault → ℕ → ℕ → Type 0
FailsByWriting (Ok u) old new = new ≡ old
FailsByWriting (Err faults.Memory) old new = new ≡ old
FailsByWriting (Err (faults.Write fault)) old new = Rises old new

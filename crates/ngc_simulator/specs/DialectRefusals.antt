-- The report of a program for another control that is refused. Our own.
use Rattle.std.specs.Prelude.{◌≡◌, ℕ, min, List, ◌++◌, codes, Option, Some, Result, Ok, Err, Bool}
use Rattle.std.specs.Prelude.{true, false}
use Rattle.std.specs.Io.KnownBytes.{Appends, Keeps}
use Rattle.ngc_text.specs.Written.{AppendsPrefix}
use Rattle.ngc_canonical.specs.State.{Setup}
use Rattle.ngc_dialect_execution.specs.Faults.{FailsBy, cause_number}
use Rattle.ngc_dialect_execution.specs.Program.{meaning_in}
use Rattle.ngc_dialect_execution.specs.Text.{has_deleted}
use Rattle.ngc_dialect_execution.specs.declared.fault.Cause.{Cause}
use Rattle.ngc_dialect_execution.specs.declared.fault.Cause.TheVariants.{Reading}
use Rattle.ngc_dialect_execution.specs.declared.fault.DialectFault.TheVariants.{At}
use Rattle.ngc_dialect_faults.specs.Lines.{cause_text, fault_line}
use Rattle.ngc_dialect_names.specs.declared.dialect.Dialect.{Dialect}
use Rattle.ngc_inputs.specs.declared.fault.AnswerFault.{AnswerFault}
use Rattle.ngc_inputs.specs.declared.fault.AnswerFault.TheVariants as answers
use Rattle.ngc_line_reader.specs.Program.{lines_of}
use Rattle.ngc_margins.specs.Lines.{nothing_kept}
use Rattle.ngc_program_report.specs.Texts.{ending, heading, refused_line}
use Rattle.ngc_program_report.specs.declared.request.ReportRequest.{ReportRequest}
use Rattle.ngc_report.specs.Quotes.{bytes_with, marked, quoted}
use Rattle.ngc_report.specs.declared.form.Form.{Form}
use Rattle.ngc_report.specs.declared.form.Form.TheVariants.{Words, Json}
use Rattle.ngc_simulator.specs.Dialects.{PassesBefore, is_on}
use Rattle.ngc_simulator.specs.Unreadable.{unreadable_line}
use Rattle.ngc_simulator.specs.declared.dialect_refusals.RefusedDialect.{RefusedDialect}
use Rattle.ngc_simulator.specs.declared.done.Done.{Done}
use Rattle.ngc_simulator.specs.declared.done.Done.TheVariants.{Quietly, RunThrough, WithNotes}
use Rattle.ngc_simulator.specs.declared.done.Notes.{Notes}

-- ---- the text

-- the program is refused, or can't be read
abbrev pub verdict_line : Form → Cause → List ℕ
verdict_line form (Reading fault) = unreadable_line form
verdict_line form _ = refused_line form

-- the line of a fault, with a mark below the column from which it can't be read
abbrev pub fault_place : Form → ℕ → Cause → List ℕ → List ℕ
fault_place form line (Reading fault) source =
    marked form line (min fault.column 65535) (bytes_with line (lines_of source))
fault_place form line _ source = quoted form line (lines_of source)

-- what is wrong
abbrev pub reason_start : Form → List ℕ
reason_start Words = codes "Reason: "
reason_start Json = codes ",\n{\"fact\":\"reason\",\"text\":\""

abbrev pub reason_end : Form → List ℕ
reason_end Words = codes ".\n"
reason_end Json = codes "\"}"

abbrev pub reason_text : Form → Cause → List ℕ
reason_text form cause = reason_start form ++ (cause_text cause ++ reason_end form)

-- the report: the origins of the call, the setting if the two differ, the verdict, the line, the reason and
-- the number of the fault
abbrev pub refusal_text : ReportRequest → List ℕ → RefusedDialect → List ℕ
refusal_text request source r =
    heading request.form request.origins nothing_kept true (has_deleted source) r.setting
    ++ (verdict_line request.form r.cause
    ++ (fault_place request.form r.line r.cause source
    ++ (reason_text request.form r.cause ++ ending request.form (cause_number r.cause))))

-- ---- the program

-- a program is refused by its first fault, at the first setting of block delete at which it is
pub record IsRefusedDialect (d : Dialect) (setup : Setup) (source : List ℕ) (r : RefusedDialect) :
    Type 0 where
  pub first : PassesBefore r.setting d setup source
  pub refuses : FailsBy (At r.line r.cause) (meaning_in d setup (is_on r.setting) source)

-- notes report the fault
pub record AreNotesOf (r : RefusedDialect) (notes : Notes) : Type 0 where
  pub reports : notes.text.items ≡ fault_line (Some r.setting) r.line r.cause
  pub unwritten : notes.is_written ≡ false

-- The report of a refusal was written, and notes report the fault; or a prefix of it was written if the
-- sink failed. If memory ran out, the output is unchanged.
abbrev pub ReportsRefused : List ℕ → ReportRequest → RefusedDialect → Option (List ℕ) →
    Option (List ℕ) → Result Done AnswerFault → Type 0
ReportsRefused source request r old new (Ok Quietly) = ⊥
ReportsRefused source request r old new (Ok (RunThrough time)) = ⊥
ReportsRefused source request r old new (Ok (WithNotes notes)) =
    AreNotesOf r notes × Appends old new (refusal_text request source r)
ReportsRefused source request r old new (Err answers.Memory) = Keeps old new
ReportsRefused source request r old new (Err (answers.Write fault)) =
    AppendsPrefix old new (refusal_text request source r)
ReportsRefused source request r old new (Err _) = ⊥

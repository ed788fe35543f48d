-- The report of a program for another control, from the results of its parts.
use Rattle.std.proofs.Common.{◌≡◌, ℕ, List, Option, Some, None, Result, Ok, Err, IfErr, inl, inr, refl}
use Rattle.ngc_file_figures.specs.Files.{values_of}
use Rattle.ngc_file_figures.specs.declared.figures.FileFigures.{FileFigures}
use Rattle.ngc_canonical.specs.Interpreter.{setup_of}
use Rattle.ngc_canonical.specs.State.{Setup}
use Rattle.ngc_dialect_names.specs.declared.dialect.Dialect.{Dialect}
use Rattle.ngc_inputs.specs.Unread.{unread_by}
use Rattle.ngc_inputs.specs.declared.fault.AnswerFault.{AnswerFault}
use Rattle.ngc_inputs.specs.declared.fault.AnswerFault.TheVariants as answers
use Rattle.ngc_program_report.specs.Framed.{FramedData}
use Rattle.ngc_program_report.specs.Reported.{other_lines}
use Rattle.ngc_program_report.specs.declared.request.ReportRequest.{ReportRequest}
use Rattle.ngc_command_line.specs.declared.options.ReportOptions.{ReportOptions}
use Rattle.ngc_inputs.specs.Setups.{FileBytes}
use Rattle.ngc_simulator.specs.Answers.{DialectReportResult, DialectReportsOn, StopsReport, StopsShop, request_of}
use Rattle.ngc_simulator.specs.DialectRefusals.{IsRefusedDialect, ReportsRefused}
use Rattle.ngc_simulator.specs.DialectReports.{IsFramedDialect, ReportsDialect, dialect_notes}
use Rattle.ngc_simulator.specs.Reporting.{ReportsJob}
use Rattle.ngc_simulator.specs.declared.dialect_refusals.RefusedDialect.{RefusedDialect}
use Rattle.ngc_simulator.specs.declared.dialects.Sent.{Sent}
use Rattle.ngc_simulator.specs.declared.done.Done.{Done}
use Rattle.ngc_simulator.specs.declared.done.Done.TheVariants.{Quietly, RunThrough, WithNotes}

-- ---- the report

-- a report that isn't written whole
pub dialect_stopped : (d : Dialect) (setup : Setup) (source : List ℕ) (request : ReportRequest) (f : FramedData) (old new : Option (List ℕ)) (fault : AnswerFault)
    → IsFramedDialect d setup source f → ReportsJob f (other_lines (values_of request.figures) source (dialect_notes d setup source)) request old new (Err fault) → ReportsDialect d setup source request old new (Err fault)
dialect_stopped d setup source request f old new answers.Memory framed tells = absurd tells
dialect_stopped d setup source request f old new (answers.Write e) framed tells = inl (f, framed, tells)
dialect_stopped d setup source request f old new _ framed tells = (f, framed, tells)

-- the report of a program that is refused
pub dialect_refused : (d : Dialect) (setup : Setup) (source : List ℕ) (request : ReportRequest) (r : RefusedDialect) (old new : Option (List ℕ)) (outcome : Result Done AnswerFault)
    → IsRefusedDialect d setup source r → ReportsRefused source request r old new outcome → ReportsDialect d setup source request old new outcome
dialect_refused d setup source request r old new (Ok Quietly) is tells = absurd tells
dialect_refused d setup source request r old new (Ok (RunThrough time)) is tells = absurd tells
dialect_refused d setup source request r old new (Ok (WithNotes notes)) is tells = (r, is, tells)
dialect_refused d setup source request r old new (Err answers.Memory) is tells = tells
dialect_refused d setup source request r old new (Err (answers.Write e)) is tells = inr (r, is, tells)
dialect_refused d setup source request r old new (Err _) is tells = absurd tells

-- the report of what was read, from that of the same without its figures
pub report_asked : (sent moved : Sent) (figures : FileFigures) (options : ReportOptions) (request : ReportRequest) (old new : Option (List ℕ)) (outcome : Result Done AnswerFault)
    → moved.dialect ≡ sent.dialect → moved.shop.machine ≡ sent.shop.machine → moved.shop.tools ≡ sent.shop.tools → moved.text ≡ sent.text
    → request ≡ request_of figures options
    → ReportsDialect moved.dialect (setup_of moved.shop.machine moved.shop.tools) moved.text.items request old new outcome
    → ReportsDialect sent.dialect (setup_of sent.shop.machine sent.shop.tools) sent.text.items (request_of figures options) old new outcome
report_asked sent moved figures options request old new outcome dialect machine tools text asked reports =
    rw (← dialect, ← machine, ← tools, ← text, ← asked) reports

-- no file was left unread
pub report_read : (d : Dialect) (setup : Setup) (source : List ℕ) (request : ReportRequest) (old new : Option (List ℕ)) (outcome : Result Done AnswerFault) →
    ReportsDialect d setup source request old new outcome → IfErr outcome (λ fault. unread_by fault ≡ None)
report_read d setup source request old new (Ok done) tells = tt
report_read d setup source request old new (Err (answers.Input e)) tells = absurd tells.2
report_read d setup source request old new (Err (answers.Read e)) tells = absurd tells.2
report_read d setup source request old new (Err (answers.Certificate e)) tells = absurd tells.2
report_read d setup source request old new (Err _) tells = refl

-- ---- its files

-- a machine file or a tool table that is refused, a file that isn't read, or cells without material
pub stops_report : (control : List ℕ) (bytes : FileBytes) (options : ReportOptions) (old new : Option (List ℕ)) (fault : AnswerFault)
    → StopsShop bytes options old new fault → StopsReport control bytes options old new fault
stops_report control bytes options old new answers.UnknownControl (inl refuses) = absurd refuses.0
stops_report control bytes options old new answers.UnknownControl (inr idle) = absurd idle.1
stops_report control bytes options old new _ stops = stops

-- a report that is made of files that were read
pub dialect_reported : (control : List ℕ) (bytes : FileBytes) (options : ReportOptions) (old new : Option (List ℕ)) (outcome : Result Done AnswerFault)
    → DialectReportsOn control bytes options old new outcome → DialectReportResult control bytes options old new outcome
dialect_reported control bytes options old new (Ok done) does = does
dialect_reported control bytes options old new (Err fault) does = inr does

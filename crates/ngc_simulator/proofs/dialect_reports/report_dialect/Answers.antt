use Rattle.std.proofs.Common.{◌≡◌, ◌∙◌, false, ℕ, List, Option, Some, ap, inl, subst, sym}
use Rattle.std.specs.Prelude.{option_map}
use Rattle.ngc_canonical.specs.Interpreter.{setup_of}
use Rattle.ngc_file_figures.specs.Files.{stored}
use Rattle.ngc_inputs.specs.Setups.{AreFiguresIn, FileBytes}
use Rattle.ngc_inputs.specs.Unread.{SourceFails}
use Rattle.ngc_inputs.proofs.UnreadLaws.{unread_told}
use Rattle.ngc_report.proofs.Converted.{turned}
use Rattle.ngc_simulator.specs.Answers.{DialectReportResult, report_inputs_in, request_of}
use Rattle.ngc_simulator.specs.Cells.{is_idle}
use Rattle.ngc_simulator.specs.DialectReports.{ReportsDialect}
use Rattle.ngc_simulator.proofs.DialectLaws.{all_were_read, on_read}
use Rattle.ngc_simulator.proofs.DialectReportLaws.{dialect_reported, report_asked, report_read}
use Rattle.ngc_simulator.proofs.dialect_reports.report_dialect.Goals as goal

pub returns-in_err-sent-clause-comes : goal.returns-in_err-sent-clause-comes
returns-in_err-sent-clause-comes g c =
    turned _ c.in_err-sent.field-0.0
    (DialectReportResult c.args.control.now (g.F.Files.bytes c.args.files.now) c.args.options.now (g.W.Sink.written c.args.output.now)
    (g.W.Sink.written c.read_sent_reporting.new.output)) c.from_residual.ensures.1 (inl c.in_err-sent.ensures.stops)

pub returns-in_err-sent-clause-unread : goal.returns-in_err-sent-clause-unread
returns-in_err-sent-clause-unread g c =
    unread_told (SourceFails g.F.R.Source.remaining g.F.R.Source.failures) (g.F.Files.bytes c.args.files.now)
    (report_inputs_in (Some c.args.control.now) c.args.options.now) _ _ _ c.in_err-sent.field-0.0 c.from_residual.ensures.1 c.in_err-sent.ensures.unread

pub returns-clause-comes : goal.returns-clause-comes
returns-clause-comes g c =
    let old : Option (List ℕ) = g.W.Sink.written c.args.output.now in
    let new : Option (List ℕ) = g.W.Sink.written c.report_sent.new.output in
    let machine : Option (List ℕ) = Some c.args.options.now.machine.now in
    let tools : Option (List ℕ) = Some c.args.options.now.tools.now in
    let bytes : FileBytes = g.F.Files.bytes c.args.files.now in
    let sent = c.in_ok-sent.sent in
    let moved = c.without_figures-sent.ensures in
    let figures = c.borrowed.result in
    let outcome = c.report_sent.result in
    let reports = report_asked sent c.without_figures-sent.result.0 figures c.args.options.now c.request_of-request.result (g.W.Sink.written c.read_sent_reporting.new.output) new outcome
    moved.dialect moved.machine moved.tools moved.text c.request_of-request.ensures c.report_sent.ensures.reports in
    let are = subst (AreFiguresIn bytes machine tools) (sym (c.borrowed.ensures ∙ ap stored moved.figures)) c.in_ok-sent.ensures.figures in
    dialect_reported c.args.control.now bytes c.args.options.now old new outcome (
      figures,
      are,
      on_read c.args.control.now machine tools c.args.options.now.changes (option_map (λ n. n.now) c.args.options.now.program) bytes sent
          (λ d s source. (is_idle c.args.options.now.cells s.machine.stock ≡ false)
          × ReportsDialect d s source (request_of figures c.args.options.now) old new outcome) c.in_ok-sent.ensures.sent.0 (
            c.in_ok-sent.ensures.sent.2,
            subst (λ (o : Option (List ℕ)). ReportsDialect sent.dialect (setup_of sent.shop.machine sent.shop.tools) sent.text.items (request_of figures c.args.options.now) o new outcome)
                c.in_ok-sent.ensures.sent.1 reports,
          ),
    )

pub returns-clause-unread : goal.returns-clause-unread
returns-clause-unread g c =
    let moved = c.without_figures-sent.result.0 in
    all_were_read (SourceFails g.F.R.Source.remaining g.F.R.Source.failures) (g.F.Files.bytes c.args.files.now)
    (report_inputs_in (Some c.args.control.now) c.args.options.now) _ _ c.report_sent.result c.in_ok-sent.ensures.unread
    (report_read moved.dialect (setup_of moved.shop.machine moved.shop.tools) moved.text.items c.request_of-request.result _ _ c.report_sent.result c.report_sent.ensures.reports)

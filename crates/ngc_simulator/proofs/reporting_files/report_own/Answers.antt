use Rattle.std.proofs.Common.{ℕ, List, [], ◌∷◌, Option, Some, Ok, Err, IfSome, inl, ap, refl, subst, sym, ◌∙◌}
use Rattle.ngc_canonical.specs.Interpreter.{setup_of}
use Rattle.ngc_report.specs.declared.form.Form.{Form}
use Rattle.std.specs.Io.KnownBytes.{Keeps}
use Rattle.ngc_report.proofs.Converted.{turned}
use Rattle.ngc_inputs.specs.Setups.{AreFiguresIn}
use Rattle.ngc_inputs.proofs.JobLaws.{keeps_same}
use Rattle.ngc_simulator.proofs.ReportLaws.{asked, reported_files}
use Rattle.ngc_simulator.specs.Answers.{OwnReportResult, ReportsOn, program_input, request_of, own_report_inputs}
use Rattle.ngc_simulator.specs.AllFaults.{ReportsFaults}
use Rattle.ngc_simulator.specs.Reporting.{Reports}
use Rattle.ngc_inputs.specs.Unread.{OfProgram, SourceFails, shop_inputs, unread_by}
use Rattle.ngc_inputs.specs.declared.fault.AnswerFault.{AnswerFault}
use Rattle.ngc_inputs.specs.declared.fault.AnswerFault.TheVariants as answers
use Rattle.ngc_inputs.proofs.UnreadLaws.{certify_told, program_again, placed_read, reported_before, told_behind, unopened, unread_told}
use Rattle.ngc_simulator.proofs.UnreadableLaws.{TellsKnown, faults_comes, reported_comes, told_comes}
use Rattle.std.specs.Prelude.{IsSome, option_map}
use Rattle.ngc_simulator.proofs.reporting_files.report_own.Goals as goal

pub returns-in_err-shop-clause-comes : goal.returns-in_err-shop-clause-comes
returns-in_err-shop-clause-comes g c =
    turned _ c.in_err-shop.field-0.0
    (OwnReportResult (g.F.Files.bytes c.args.files.now) c.args.options.now (g.W.Sink.written c.args.output.now)
    (g.W.Sink.written c.read_report_shop.new.output)) c.from_residual.ensures.1 (inl c.in_err-shop.ensures.said)

pub returns-in_err-report_all_faults-clause-comes : goal.returns-in_err-report_all_faults-clause-comes
returns-in_err-report_all_faults-clause-comes g c =
    let fault = c.in_err-report_all_faults.field-0.0 in
    let new = g.W.Sink.written c.report_all_faults.new.output in
    turned _ fault (OwnReportResult (g.F.Files.bytes c.args.files.now) c.args.options.now (g.W.Sink.written c.args.output.now) new)
    c.from_residual-in_err-report_all_faults.ensures.1
    (subst (λ (o : Option (List ℕ)). OwnReportResult (g.F.Files.bytes c.args.files.now) c.args.options.now o new (Err fault)) c.in_ok-shop.ensures.said.1
    (faults_comes (g.F.Files.bytes c.args.files.now) (g.F.Files.bytes c.read_report_shop.new.files) c.args.options.now c.in_ok-shop.shop
    (g.F.Files.bytes c.read_report_shop.new.files (option_map (λ n. n.now) c.args.options.now.program)) (g.W.Sink.written c.read_report_shop.new.output)
    c.in_ok-shop.ensures.said.0 c.read_report_shop.ensures.keeps refl c.in_ok-shop.ensures.said.2 new fault c.in_err-report_all_faults.ensures.all
    (subst (λ (f : Form). IfSome (g.F.Files.bytes c.read_report_shop.new.files (option_map (λ n. n.now) c.args.options.now.program))
    (λ text. ReportsFaults (setup_of c.in_ok-shop.shop.machine c.in_ok-shop.shop.tools) f text (g.W.Sink.written c.read_report_shop.new.output) new fault))
    c.requested_form-form.ensures c.in_err-report_all_faults.ensures.told)))

pub returns-in_err-source-clause-comes : goal.returns-in_err-source-clause-comes
returns-in_err-source-clause-comes g c =
    let fault = answers.Input c.in_err-source.field-0.0 in
    turned _ fault (OwnReportResult (g.F.Files.bytes c.args.files.now) c.args.options.now (g.W.Sink.written c.args.output.now)
    (g.W.Sink.written c.report_all_faults.new.output)) c.from_residual-in_err-source.ensures.1
    (inl (inl (tt, inl (subst (λ (o : Option (List ℕ)). Keeps o (g.W.Sink.written c.report_all_faults.new.output)) (c.in_ok-report_all_faults.ensures.silent ∙ c.in_ok-shop.ensures.said.1) (keeps_same _)))))

pub returns-in-Ok-clause-comes : goal.returns-in-Ok-clause-comes
returns-in-Ok-clause-comes g c =
    let new = g.W.Sink.written c.report_program.new.output in
    subst (λ (o : Option (List ℕ)). ReportsOn (g.F.Files.bytes c.args.files.now) c.args.options.now o new (Ok tt)) (c.in_ok-report_all_faults.ensures.silent ∙ c.in_ok-shop.ensures.said.1)
    (reported_files (g.F.Files.bytes c.args.files.now) (g.F.Files.bytes c.report_all_faults.new.files) c.borrowed.result c.args.options.now c.in_ok-shop.shop _
    (g.W.Sink.written c.report_all_faults.new.output) new (Ok tt)
    (subst (AreFiguresIn (g.F.Files.bytes c.args.files.now) (Some c.args.options.now.machine.now) (Some c.args.options.now.tools.now))
    (sym c.borrowed.ensures) c.in_ok-shop.ensures.figures)
    c.in_ok-shop.ensures.said.0 (λ n. c.report_all_faults.ensures.keeps n ∙ c.read_report_shop.ensures.keeps n) c.in_ok-source.ensures.bytes
    c.in_ok-shop.ensures.said.2 (asked c.borrowed.result c.args.options.now c.in_ok-shop.shop c.request_of-request.result _ _ _ (Ok tt) c.request_of-request.ensures c.in-Ok.ensures.reports))

pub returns-in-None-clause-comes : goal.returns-in-None-clause-comes
returns-in-None-clause-comes g c =
    let fault = c.in-Err.fault in
    let new = g.W.Sink.written c.report_program.new.output in
    subst (λ (o : Option (List ℕ)). OwnReportResult (g.F.Files.bytes c.args.files.now) c.args.options.now o new (Err fault)) (c.in_ok-report_all_faults.ensures.silent ∙ c.in_ok-shop.ensures.said.1)
    (reported_comes (g.F.Files.bytes c.args.files.now) (g.F.Files.bytes c.report_all_faults.new.files) c.args.options.now c.in_ok-shop.shop _
    (g.W.Sink.written c.report_all_faults.new.output)
    c.in_ok-shop.ensures.said.0 (λ n. c.report_all_faults.ensures.keeps n ∙ c.read_report_shop.ensures.keeps n) c.in_ok-source.ensures.bytes
    c.in_ok-shop.ensures.said.2 c.borrowed.result new fault
    (subst (AreFiguresIn (g.F.Files.bytes c.args.files.now) (Some c.args.options.now.machine.now) (Some c.args.options.now.tools.now))
    (sym c.borrowed.ensures) c.in_ok-shop.ensures.figures) c.in-Err.ensures.faults
    (asked c.borrowed.result c.args.options.now c.in_ok-shop.shop c.request_of-request.result _ _ _ (Err fault) c.request_of-request.ensures c.in-Err.ensures.reports))

pub returns-clause-comes : goal.returns-clause-comes
returns-clause-comes g c =
    let fault = c.in-Err.fault in
    let new = g.W.Sink.written c.report_program.new.output in
    subst (λ (o : Option (List ℕ)). OwnReportResult (g.F.Files.bytes c.args.files.now) c.args.options.now o new (Err fault)) (c.in_ok-report_all_faults.ensures.silent ∙ c.in_ok-shop.ensures.said.1)
    (reported_comes (g.F.Files.bytes c.args.files.now) (g.F.Files.bytes c.report_all_faults.new.files) c.args.options.now c.in_ok-shop.shop _
    (g.W.Sink.written c.report_all_faults.new.output)
    c.in_ok-shop.ensures.said.0 (λ n. c.report_all_faults.ensures.keeps n ∙ c.read_report_shop.ensures.keeps n) c.in_ok-source.ensures.bytes
    c.in_ok-shop.ensures.said.2 c.borrowed.result new fault
    (subst (AreFiguresIn (g.F.Files.bytes c.args.files.now) (Some c.args.options.now.machine.now) (Some c.args.options.now.tools.now))
    (sym c.borrowed.ensures) c.in_ok-shop.ensures.figures) c.in-Err.ensures.faults
    (asked c.borrowed.result c.args.options.now c.in_ok-shop.shop c.request_of-request.result _ _ _ (Err fault) c.request_of-request.ensures c.in-Err.ensures.reports))

pub returns-in-Read-clause-comes : goal.returns-in-Read-clause-comes
returns-in-Read-clause-comes g c =
    let shop = c.in_ok-shop.shop in
    let name = c.in-Some.name.now in
    let answer = c.report_unreadable-told.result in
    let mid = g.W.Sink.written c.report_program.new.output in
    let new = g.W.Sink.written c.report_unreadable-told.new.output in
    let reports = asked c.borrowed.result c.args.options.now shop c.request_of-request.result _ _ mid
    (Err c.in-Err.fault) c.request_of-request.ensures c.in-Err.ensures.reports in
    subst (λ (o : Option (List ℕ)). OwnReportResult (g.F.Files.bytes c.args.files.now) c.args.options.now o new (Err answer)) (c.in_ok-report_all_faults.ensures.silent ∙ c.in_ok-shop.ensures.said.1)
    (told_comes (g.F.Files.bytes c.args.files.now) (g.F.Files.bytes c.report_all_faults.new.files) c.args.options.now shop
    (g.F.R.Source.remaining c.in_ok-source.source)
    (g.W.Sink.written c.report_all_faults.new.output) c.in_ok-shop.ensures.said.0 (λ n. c.report_all_faults.ensures.keeps n ∙ c.read_report_shop.ensures.keeps n) c.in_ok-source.ensures.bytes
    c.in_ok-shop.ensures.said.2 c.borrowed.result (g.F.Files.bytes c.open_file.new.files) name mid new c.in-Read.fault answer c.report_unreadable-told.ensures.faults
    (ap (option_map (λ n. n.now)) c.in-Some.is) (c.in_ok-source.ensures.keeps (subst IsSome (sym c.in-Some.is) refl))
    (subst (λ (f : AnswerFault). IfSome (g.F.R.Source.remaining c.in_ok-source.source)
    (λ text. Reports (setup_of shop.machine shop.tools) text (request_of c.borrowed.result c.args.options.now) (g.W.Sink.written c.report_all_faults.new.output) mid (Err f)))
    c.in-Read.is reports)
    (subst (λ (f : Form). TellsKnown f (Some name) (g.F.Files.bytes c.open_file.new.files (Some name)) mid new c.in-Read.fault answer)
    c.requested_form-form.ensures
    c.report_unreadable-told.ensures.tells))

pub returns-in_err-shop-clause-unread : goal.returns-in_err-shop-clause-unread
returns-in_err-shop-clause-unread g c =
    unread_told (SourceFails g.F.R.Source.remaining g.F.R.Source.failures) (g.F.Files.bytes c.args.files.now)
    (own_report_inputs c.args.options.now) _ _ _ c.in_err-shop.field-0.0 c.from_residual.ensures.1
    (reported_before (SourceFails g.F.R.Source.remaining g.F.R.Source.failures) (g.F.Files.bytes c.args.files.now)
    (shop_inputs (Some c.args.options.now.machine.now) (Some c.args.options.now.tools.now))
    (program_input (option_map (λ n. n.now) c.args.options.now.program) ∷ []) _ _ (unread_by c.in_err-shop.field-0.0) c.in_err-shop.ensures.unread)

pub returns-in_err-report_all_faults-clause-unread : goal.returns-in_err-report_all_faults-clause-unread
returns-in_err-report_all_faults-clause-unread g c =
    let program = option_map (λ n. n.now) c.args.options.now.program in
    unread_told (SourceFails g.F.R.Source.remaining g.F.R.Source.failures) (g.F.Files.bytes c.args.files.now) (own_report_inputs c.args.options.now) _ _ _
    c.in_err-report_all_faults.field-0.0 c.from_residual-in_err-report_all_faults.ensures.1
    (told_behind (SourceFails g.F.R.Source.remaining g.F.R.Source.failures) (g.F.Files.bytes c.args.files.now) (g.F.Files.bytes c.read_report_shop.new.files)
    (shop_inputs (Some c.args.options.now.machine.now) (Some c.args.options.now.tools.now)) OfProgram program [] _ _ _
    (unread_by c.in_err-report_all_faults.field-0.0)
    (placed_read (g.F.Files.bytes c.args.files.now) (Some c.args.options.now.machine.now)
    (Some c.args.options.now.tools.now) c.args.options.now.changes c.in_ok-shop.shop c.in_ok-shop.ensures.said.0)
    (c.read_report_shop.ensures.keeps program) c.in_ok-shop.ensures.unread c.in_err-report_all_faults.ensures.unread)

pub returns-in_err-source-clause-unread : goal.returns-in_err-source-clause-unread
returns-in_err-source-clause-unread g c =
    unread_told (SourceFails g.F.R.Source.remaining g.F.R.Source.failures) (g.F.Files.bytes c.args.files.now) (own_report_inputs c.args.options.now) _ _ _
    (answers.Input c.in_err-source.field-0.0) c.from_residual-in_err-source.ensures.1
    (unopened (SourceFails g.F.R.Source.remaining g.F.R.Source.failures) (g.F.Files.bytes c.args.files.now)
    (shop_inputs (Some c.args.options.now.machine.now) (Some c.args.options.now.tools.now)) OfProgram
    (option_map (λ n. n.now) c.args.options.now.program) [] _ _ _ c.in_err-source.field-0.0 c.in_err-source.ensures.fault
    (placed_read (g.F.Files.bytes c.args.files.now) (Some c.args.options.now.machine.now)
    (Some c.args.options.now.tools.now) c.args.options.now.changes c.in_ok-shop.shop c.in_ok-shop.ensures.said.0) (c.in_ok-report_all_faults.ensures.unread ∙ c.in_ok-shop.ensures.unread) c.in_err-source.ensures.counts)

pub returns-in-None-clause-unread : goal.returns-in-None-clause-unread
returns-in-None-clause-unread g c =
    certify_told (SourceFails g.F.R.Source.remaining g.F.R.Source.failures) (g.F.Files.bytes c.args.files.now)
    (shop_inputs (Some c.args.options.now.machine.now) (Some c.args.options.now.tools.now))
    (option_map (λ n. n.now) c.args.options.now.program) _ _ c.in-Err.fault c.in-Err.ensures.faults
    (placed_read (g.F.Files.bytes c.args.files.now) (Some c.args.options.now.machine.now)
    (Some c.args.options.now.tools.now) c.args.options.now.changes c.in_ok-shop.shop c.in_ok-shop.ensures.said.0) (c.in_ok-source.ensures.counts ∙ (c.in_ok-report_all_faults.ensures.unread ∙ c.in_ok-shop.ensures.unread))
    (λ is. record {
      opened = c.in_ok-source.source;
      left = c.report_program.new.source;
      gave = c.in_ok-source.ensures.bytes ∙ (λ (n : Option (List ℕ)). c.report_all_faults.ensures.keeps n ∙ c.read_report_shop.ensures.keeps n) (option_map (λ n. n.now) c.args.options.now.program);
      fails = c.in-Err.ensures.source (ap Err is);
    })

pub returns-clause-unread : goal.returns-clause-unread
returns-clause-unread g c =
    certify_told (SourceFails g.F.R.Source.remaining g.F.R.Source.failures) (g.F.Files.bytes c.args.files.now)
    (shop_inputs (Some c.args.options.now.machine.now) (Some c.args.options.now.tools.now))
    (option_map (λ n. n.now) c.args.options.now.program) _ _ c.in-Err.fault c.in-Err.ensures.faults
    (placed_read (g.F.Files.bytes c.args.files.now) (Some c.args.options.now.machine.now)
    (Some c.args.options.now.tools.now) c.args.options.now.changes c.in_ok-shop.shop c.in_ok-shop.ensures.said.0) (c.in_ok-source.ensures.counts ∙ (c.in_ok-report_all_faults.ensures.unread ∙ c.in_ok-shop.ensures.unread))
    (λ is. record {
      opened = c.in_ok-source.source;
      left = c.report_program.new.source;
      gave = c.in_ok-source.ensures.bytes ∙ (λ (n : Option (List ℕ)). c.report_all_faults.ensures.keeps n ∙ c.read_report_shop.ensures.keeps n) (option_map (λ n. n.now) c.args.options.now.program);
      fails = c.in-Err.ensures.source (ap Err is);
    })

pub returns-in-Read-clause-unread : goal.returns-in-Read-clause-unread
returns-in-Read-clause-unread g c =
    let name = c.in-Some.name.now in
    let named = ap (option_map (λ n. n.now)) c.in-Some.is in
    let keeps_later = c.in_ok-source.ensures.keeps (subst IsSome (sym c.in-Some.is) refl) in
    program_again (SourceFails g.F.R.Source.remaining g.F.R.Source.failures) (g.F.Files.bytes c.args.files.now) (g.F.Files.bytes c.open_file.new.files)
    (shop_inputs (Some c.args.options.now.machine.now) (Some c.args.options.now.tools.now))
    (option_map (λ n. n.now) c.args.options.now.program) name _ _ _ c.report_unreadable-told.result named
    (placed_read (g.F.Files.bytes c.args.files.now) (Some c.args.options.now.machine.now)
    (Some c.args.options.now.tools.now) c.args.options.now.changes c.in_ok-shop.shop c.in_ok-shop.ensures.said.0)
    (keeps_later (Some name) ∙ (λ (n : Option (List ℕ)). c.report_all_faults.ensures.keeps n ∙ c.read_report_shop.ensures.keeps n) (Some name)) (c.in_ok-source.ensures.counts ∙ (c.in_ok-report_all_faults.ensures.unread ∙ c.in_ok-shop.ensures.unread))
    (c.report_unreadable-told.ensures.unread (λ is. record {
      opened = c.in_ok-source.source;
      left = c.report_program.new.source;
      gave = c.in_ok-source.ensures.bytes ∙ ap (g.F.Files.bytes c.report_all_faults.new.files) named ∙ sym (keeps_later (Some name));
      fails = c.in-Err.ensures.source (ap Err (c.in-Read.is ∙ ap answers.Read is));
    }))

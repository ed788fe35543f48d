use Rattle.std.proofs.Common.{ℕ, List, [], ◌∷◌, Option, Some, inl, subst}
use Rattle.std.specs.Io.KnownBytes.{Keeps}
use Rattle.std.specs.Prelude.{option_map}
use Rattle.ngc_inputs.specs.Unread.{OfSource, SourceFails, shop_inputs, unread_by}
use Rattle.ngc_inputs.specs.declared.fault.AnswerFault.TheVariants as answers
use Rattle.ngc_inputs.proofs.JobLaws.{keeps_same}
use Rattle.ngc_inputs.proofs.UnreadLaws.{placed_read, reported_before, told_behind, unread_told}
use Rattle.ngc_report.proofs.Converted.{turned}
use Rattle.std.specs.Prelude.{IfErr}
use Rattle.ngc_simulator.specs.Answers.{StopsReport, report_inputs_in, source_input}
use Rattle.ngc_simulator.proofs.DialectReportLaws.{stops_report}
use Rattle.ngc_simulator.proofs.dialects.read_sent_reporting.Goals as goal

pub returns-in_err-shop-clause-stops : goal.returns-in_err-shop-clause-stops
returns-in_err-shop-clause-stops g c =
    let bytes = g.F.Files.bytes c.args.files.now in
    let old = g.W.Sink.written c.args.output.now in
    let new = g.W.Sink.written c.read_report_shop.new.output in
    let fault = c.in_err-shop.field-0.0 in
    turned _ fault (λ r. IfErr r (StopsReport c.args.control.now bytes c.args.options.now old new)) c.from_residual.ensures.1
    (stops_report c.args.control.now bytes c.args.options.now old new fault c.in_err-shop.ensures.said)

pub returns-in_err-text-clause-stops : goal.returns-in_err-text-clause-stops
returns-in_err-text-clause-stops g c =
    let bytes = g.F.Files.bytes c.args.files.now in
    let old = g.W.Sink.written c.args.output.now in
    let new = g.W.Sink.written c.read_report_shop.new.output in
    turned _ (answers.Input c.in_err-text.field-0.0) (λ r. IfErr r (StopsReport c.args.control.now bytes c.args.options.now old new)) c.from_residual-in_err-text.ensures.1
    (inl (tt, inl (subst (λ (o : Option (List ℕ)). Keeps o new) c.in_ok-shop.ensures.said.1 (keeps_same new))))

pub returns-in_err-shop-clause-unread : goal.returns-in_err-shop-clause-unread
returns-in_err-shop-clause-unread g c =
    unread_told (SourceFails g.F.R.Source.remaining g.F.R.Source.failures) (g.F.Files.bytes c.args.files.now)
    (report_inputs_in (Some c.args.control.now) c.args.options.now) _ _ _ c.in_err-shop.field-0.0 c.from_residual.ensures.1
    (reported_before (SourceFails g.F.R.Source.remaining g.F.R.Source.failures) (g.F.Files.bytes c.args.files.now)
    (shop_inputs (Some c.args.options.now.machine.now) (Some c.args.options.now.tools.now))
    (source_input (option_map (λ n. n.now) c.args.options.now.program) ∷ []) _ _ (unread_by c.in_err-shop.field-0.0) c.in_err-shop.ensures.unread)

pub returns-in_err-text-clause-unread : goal.returns-in_err-text-clause-unread
returns-in_err-text-clause-unread g c =
    let program = option_map (λ n. n.now) c.args.options.now.program in
    unread_told (SourceFails g.F.R.Source.remaining g.F.R.Source.failures) (g.F.Files.bytes c.args.files.now)
    (report_inputs_in (Some c.args.control.now) c.args.options.now) _ _ _ (answers.Input c.in_err-text.field-0.0) c.from_residual-in_err-text.ensures.1
    (told_behind (SourceFails g.F.R.Source.remaining g.F.R.Source.failures) (g.F.Files.bytes c.args.files.now) (g.F.Files.bytes c.read_report_shop.new.files)
    (shop_inputs (Some c.args.options.now.machine.now) (Some c.args.options.now.tools.now)) OfSource program [] _ _ _ (Some c.in_err-text.field-0.0)
    (placed_read (g.F.Files.bytes c.args.files.now) (Some c.args.options.now.machine.now) (Some c.args.options.now.tools.now) c.args.options.now.changes
    c.in_ok-shop.shop c.in_ok-shop.ensures.said.0)
    (c.read_report_shop.ensures.keeps program) c.in_ok-shop.ensures.unread (inl c.in_err-text.ensures.unread))

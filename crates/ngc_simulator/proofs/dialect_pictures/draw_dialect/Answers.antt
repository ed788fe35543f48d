use Rattle.std.proofs.Common.{ℕ, List, Option, Some, Result, ap, inl, subst}
use Rattle.std.specs.Prelude.{option_map}
use Rattle.ngc_canonical.specs.Interpreter.{setup_of}
use Rattle.ngc_picture_shapes.specs.declared.look.Look.{Look}
use Rattle.ngc_report.proofs.Converted.{turned}
use Rattle.ngc_inputs.proofs.JobLaws.{keeps_same}
use Rattle.ngc_inputs.proofs.UnreadLaws.{reported_before, unread_told}
use Rattle.ngc_inputs.specs.Setups.{FileBytes}
use Rattle.ngc_inputs.specs.Unread.{SourceFails, unread_by}
use Rattle.ngc_inputs.specs.declared.fault.AnswerFault.{AnswerFault}
use Rattle.ngc_simulator.specs.Answers.{DialectDrawResult, DrawsDialectFrom, certificate_inputs, dialect_inputs, draw_inputs_in}
use Rattle.ngc_simulator.specs.DialectPictures.{DrawsDialect, DrawsDialectBy}
use Rattle.ngc_simulator.specs.Dialects.{OnDialect, StopsDialect}
use Rattle.ngc_simulator.specs.Drawing.{look_of}
use Rattle.ngc_simulator.specs.declared.done.Done.{Done}
use Rattle.ngc_simulator.proofs.DialectLaws.{all_were_read, dialect_comes, on_dialect, sent_read}
use Rattle.ngc_simulator.proofs.DialectPictureLaws.{certificate_last, draw_read, drawn_by_name, drawn_plain}
use Rattle.ngc_simulator.proofs.dialect_pictures.draw_dialect.Goals as goal

pub returns-in_err-sent-clause-comes : goal.returns-in_err-sent-clause-comes
returns-in_err-sent-clause-comes g c =
    let old : Option (List ℕ) = g.W.Sink.written c.args.output.now in
    turned _ c.in_err-sent.field-0.0
    (DialectDrawResult c.args.control.now (g.F.Files.bytes c.args.files.now) c.args.options.now c.args.view old old)
    c.from_residual.ensures.1 (inl (c.in_err-sent.ensures.stops, keeps_same _))

pub returns-in_err-sent-clause-unread : goal.returns-in_err-sent-clause-unread
returns-in_err-sent-clause-unread g c =
    unread_told (SourceFails g.F.R.Source.remaining g.F.R.Source.failures) (g.F.Files.bytes c.args.files.now)
    (draw_inputs_in (Some c.args.control.now) c.args.options.now) _ _ _ c.in_err-sent.field-0.0 c.from_residual.ensures.1
    (reported_before (SourceFails g.F.R.Source.remaining g.F.R.Source.failures) (g.F.Files.bytes c.args.files.now)
    (dialect_inputs (Some c.args.options.now.machine.now) (Some c.args.options.now.tools.now) (option_map (λ n. n.now) c.args.options.now.program))
    (certificate_inputs (option_map (λ n. n.now) c.args.options.now.certificate)) _ _ (unread_by c.in_err-sent.field-0.0) c.in_err-sent.ensures.unread)

pub returns-in-None-clause-comes : goal.returns-in-None-clause-comes
returns-in-None-clause-comes g c =
    let old : Option (List ℕ) = g.W.Sink.written c.args.output.now in
    let new : Option (List ℕ) = g.W.Sink.written c.draw_sent.new.output in
    let options = c.args.options.now in
    let machine : Option (List ℕ) = Some options.machine.now in
    let tools : Option (List ℕ) = Some options.tools.now in
    let bytes : FileBytes = g.F.Files.bytes c.args.files.now in
    let sent = c.in_ok-sent.sent in
    let setup = setup_of sent.shop.machine sent.shop.tools in
    let outcome = c.draw_sent.result in
    dialect_comes (StopsDialect c.args.control.now bytes machine tools options.changes)
    (λ (o : Result Done AnswerFault). OnDialect c.args.control.now bytes machine tools options.changes (option_map (λ n. n.now) options.program)
    (λ d s source. DrawsDialectFrom bytes options c.args.view d s source old new o)) old new outcome
    (on_dialect _ bytes sent (λ d s source. DrawsDialectFrom bytes options c.args.view d s source old new outcome) c.in_ok-sent.ensures.sent
    (drawn_plain bytes options c.args.view sent.dialect setup sent.text.items old new outcome (ap (option_map (λ n. n.now)) c.in-None.is)
    (subst (λ (look : Look). DrawsDialect sent.dialect setup options.delete sent.text.items look old new outcome) c.look_of-look.ensures
    c.draw_sent.ensures.draws)))

pub returns-in-None-clause-unread : goal.returns-in-None-clause-unread
returns-in-None-clause-unread g c =
    let sent = c.in_ok-sent.sent in
    all_were_read (SourceFails g.F.R.Source.remaining g.F.R.Source.failures) (g.F.Files.bytes c.args.files.now)
    (draw_inputs_in (Some c.args.control.now) c.args.options.now) _ _ c.draw_sent.result c.in_ok-sent.ensures.unread
    (draw_read sent.dialect (setup_of sent.shop.machine sent.shop.tools) c.args.options.now.delete sent.text.items c.look_of-look.result _ _ c.draw_sent.result
    c.draw_sent.ensures.draws)

pub returns-clause-comes : goal.returns-clause-comes
returns-clause-comes g c =
    let old : Option (List ℕ) = g.W.Sink.written c.args.output.now in
    let new : Option (List ℕ) = g.W.Sink.written c.draw_sent_by.new.output in
    let options = c.args.options.now in
    let machine : Option (List ℕ) = Some options.machine.now in
    let tools : Option (List ℕ) = Some options.tools.now in
    let bytes : FileBytes = g.F.Files.bytes c.args.files.now in
    let after : FileBytes = g.F.Files.bytes c.read_sent.new.files in
    let name : List ℕ = c.in-Some.certificate.now in
    let sent = c.in_ok-sent.sent in
    let setup = setup_of sent.shop.machine sent.shop.tools in
    let outcome = c.draw_sent_by.result in
    dialect_comes (StopsDialect c.args.control.now bytes machine tools options.changes)
    (λ (o : Result Done AnswerFault). OnDialect c.args.control.now bytes machine tools options.changes (option_map (λ n. n.now) options.program)
    (λ d s source. DrawsDialectFrom bytes options c.args.view d s source old new o)) old new outcome
    (on_dialect _ bytes sent (λ d s source. DrawsDialectFrom bytes options c.args.view d s source old new outcome) c.in_ok-sent.ensures.sent
    (drawn_by_name bytes options c.args.view name sent.dialect setup sent.text.items old new outcome (ap (option_map (λ n. n.now)) c.in-Some.is)
    (subst (λ (known : Option (List ℕ)). DrawsDialectBy sent.dialect setup options.delete sent.text.items (look_of options c.args.view) known old new outcome)
    (c.read_sent.ensures.named name)
    (subst (λ (look : Look). DrawsDialectBy sent.dialect setup options.delete sent.text.items look (after (Some name)) old new outcome) c.look_of-look.ensures
    c.draw_sent_by.ensures.draws))))

pub returns-clause-unread : goal.returns-clause-unread
returns-clause-unread g c =
    let name : List ℕ = c.in-Some.certificate.now in
    certificate_last (SourceFails g.F.R.Source.remaining g.F.R.Source.failures) (g.F.Files.bytes c.args.files.now) (g.F.Files.bytes c.read_sent.new.files)
    c.args.options.now c.args.control.now name _ _ _ c.draw_sent_by.result (ap (option_map (λ n. n.now)) c.in-Some.is)
    (sent_read _ (g.F.Files.bytes c.args.files.now) c.in_ok-sent.sent c.in_ok-sent.ensures.sent) (c.read_sent.ensures.named name) c.in_ok-sent.ensures.unread
    c.draw_sent_by.ensures.unread

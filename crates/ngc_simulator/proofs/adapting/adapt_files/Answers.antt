use Rattle.std.proofs.Common.{ℕ, List, Option, Result, inl, subst}
use Rattle.std.specs.Prelude.{option_map}
use Rattle.ngc_canonical.specs.Interpreter.{setup_of}
use Rattle.ngc_margins.specs.Changes.{no_changes}
use Rattle.ngc_margins.specs.declared.changes.Changes.{Changes}
use Rattle.ngc_report.proofs.Converted.{turned}
use Rattle.ngc_inputs.proofs.JobLaws.{keeps_same}
use Rattle.ngc_inputs.proofs.UnreadLaws.{unread_told}
use Rattle.ngc_inputs.specs.Unread.{SourceFails}
use Rattle.ngc_inputs.specs.Setups.{FileBytes}
use Rattle.ngc_inputs.specs.declared.fault.AnswerFault.{AnswerFault}
use Rattle.ngc_simulator.specs.Adapting.{AdaptsDialect}
use Rattle.ngc_simulator.specs.Answers.{AdaptResult, adapt_inputs}
use Rattle.ngc_simulator.specs.Dialects.{OnDialect, StopsDialect}
use Rattle.ngc_simulator.specs.declared.done.Done.{Done}
use Rattle.ngc_simulator.proofs.AdaptLaws.{adapt_read}
use Rattle.ngc_simulator.proofs.DialectLaws.{all_were_read, dialect_comes, on_dialect}
use Rattle.ngc_simulator.proofs.adapting.adapt_files.Goals as goal

pub returns-in_err-sent-clause-comes : goal.returns-in_err-sent-clause-comes
returns-in_err-sent-clause-comes g c =
    let options = c.args.options.now in
    let bytes : FileBytes = g.F.Files.bytes c.args.files.now in
    let machine : Option (List ℕ) = option_map (λ n. n.now) options.machine in
    let tools : Option (List ℕ) = option_map (λ n. n.now) options.tools in
    turned _ c.in_err-sent.field-0.0
    (AdaptResult bytes options (g.W.Sink.written c.args.output.now) (g.W.Sink.written c.args.output.now)) c.from_residual.ensures.1
    (inl (
      subst (λ (changes : Changes). StopsDialect options.from.now bytes machine tools changes c.in_err-sent.field-0.0) c.none.ensures
          c.in_err-sent.ensures.stops,
      keeps_same _,
    ))

pub returns-in_err-sent-clause-unread : goal.returns-in_err-sent-clause-unread
returns-in_err-sent-clause-unread g c =
    unread_told (SourceFails g.F.R.Source.remaining g.F.R.Source.failures) (g.F.Files.bytes c.args.files.now)
    (adapt_inputs c.args.options.now) _ _ _ c.in_err-sent.field-0.0 c.from_residual.ensures.1 c.in_err-sent.ensures.unread

pub returns-clause-comes : goal.returns-clause-comes
returns-clause-comes g c =
    let options = c.args.options.now in
    let old : Option (List ℕ) = g.W.Sink.written c.args.output.now in
    let new : Option (List ℕ) = g.W.Sink.written c.adapt_sent.new.output in
    let machine : Option (List ℕ) = option_map (λ n. n.now) options.machine in
    let tools : Option (List ℕ) = option_map (λ n. n.now) options.tools in
    let program : Option (List ℕ) = option_map (λ n. n.now) options.program in
    let bytes : FileBytes = g.F.Files.bytes c.args.files.now in
    dialect_comes (StopsDialect options.from.now bytes machine tools no_changes)
    (λ (o : Result Done AnswerFault). OnDialect options.from.now bytes machine tools no_changes program
    (λ d setup source. AdaptsDialect d setup options.delete source old new o)) old new c.adapt_sent.result
    (subst (λ (changes : Changes). OnDialect options.from.now bytes machine tools changes program
    (λ d setup source. AdaptsDialect d setup options.delete source old new c.adapt_sent.result)) c.none.ensures
    (on_dialect _ bytes c.in_ok-sent.sent (λ d setup source. AdaptsDialect d setup options.delete source old new c.adapt_sent.result)
    c.in_ok-sent.ensures.sent c.adapt_sent.ensures.adapts))

pub returns-clause-unread : goal.returns-clause-unread
returns-clause-unread g c =
    let sent = c.in_ok-sent.sent in
    all_were_read (SourceFails g.F.R.Source.remaining g.F.R.Source.failures) (g.F.Files.bytes c.args.files.now)
    (adapt_inputs c.args.options.now) _ _ c.adapt_sent.result c.in_ok-sent.ensures.unread
    (adapt_read sent.dialect (setup_of sent.shop.machine sent.shop.tools) c.args.options.now.delete sent.text.items _ _ c.adapt_sent.result c.adapt_sent.ensures.adapts)

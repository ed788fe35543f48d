use Rattle.std.proofs.Common.{ap, ◌∙◌}
use Rattle.ngc_dialect_execution.specs.declared.lines.Taken.{Taken}
use Rattle.ngc_dialect_execution.specs.Taken.{words_of}
use Rattle.ngc_dialect_execution.specs.Views.{progress_in, progress_of, said_in}
use Rattle.ngc_dialect_execution.proofs.StatementSteps.{effect_follows, effect_refused, flow_begins, tested}
use Rattle.ngc_dialect_execution.proofs.lines.DialectInterpreter.take_parts.Goals as goal

pub returns-then-has_flow : goal.returns-then-has_flow
returns-then-has_flow g c =
    flow_begins _ _ _ _ (progress_in c.args.self.now) (said_in c.said_at.new.values) c.has_flow.result c.in-Ok.ensures
    (tested _ _ _ _ _ c.has_flow.ensures c.dialect.ensures c.as_slice.ensures.value) c.if-has_flow.true

pub returns-in-Ok-take : goal.returns-in-Ok-take
returns-in-Ok-take g c =
    effect_follows _ _ _ _ (progress_in c.args.self.now) (progress_of c.take.new.self) (said_in c.said_at.new.values) c.has_flow.result
    c.as_slice-3.result.now c.in-Ok.ensures (tested _ _ _ _ _ c.has_flow.ensures c.dialect.ensures c.as_slice.ensures.value) c.if-has_flow.false
    (c.as_slice-3.ensures.value ∙ c.in-Ok-find_words.ensures ∙ ap words_of c.as_slice-2.ensures.value) c.in-Ok-take.ensures

pub returns-in-Err-take : goal.returns-in-Err-take
returns-in-Err-take g c =
    effect_refused {X = Unit {0}} {Y = Taken} (λ _. progress_of c.take.new.self) (λ taken. (taken, progress_of c.take.new.self)) c.in-Err-take.refusal _ _ _ _ (progress_in c.args.self.now) (said_in c.said_at.new.values) c.has_flow.result
    c.as_slice-3.result.now c.in-Ok.ensures (tested _ _ _ _ _ c.has_flow.ensures c.dialect.ensures c.as_slice.ensures.value) c.if-has_flow.false
    (c.as_slice-3.ensures.value ∙ c.in-Ok-find_words.ensures ∙ ap words_of c.as_slice-2.ensures.value) c.in-Err-take.ensures

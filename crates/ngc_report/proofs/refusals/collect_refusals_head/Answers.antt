use Rattle.std.proofs.Common.{ℕ, subst}
use Rattle.ngc_certificate_text.proofs.CollectedTexts.{longer}
use Rattle.ngc_sentences.proofs.Said.{through, whole}
use Rattle.ngc_text.specs.Failures.{CountsFailure}
use Rattle.ngc_report.proofs.refusals.collect_refusals_head.Goals as goal

pub returns-in-Err-clause-told : goal.returns-in-Err-clause-told
returns-in-Err-clause-told g c = longer _ _ _ _ c.in-Err.ensures.fault

pub returns-clause-told : goal.returns-clause-told
returns-clause-told g c =
    let all = whole c.new-page.ensures c.say_head.ensures c.finish.ensures in
    through c.finish.result _ _ _ _ _ _ c.in-Ok.ensures.ok c.in-Ok.ensures.empty all.ok all.fault

pub returns-clause-counts : goal.returns-clause-counts
returns-clause-counts g c =
    let all = whole c.new-page.ensures c.say_head.ensures c.finish.ensures in
    subst (λ (n : ℕ). CountsFailure n (g.W.Sink.failures c.finish.new.sink) c.finish.result) c.in-Ok.ensures.counts all.counts

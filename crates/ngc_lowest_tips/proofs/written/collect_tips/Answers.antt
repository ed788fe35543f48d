use Rattle.std.proofs.Common.{◌++◌, ◌∙◌, [], ℕ, List, Err, ap, refl, rules, subst}
use Rattle.std.proofs.lemmas.List.{append-nil, at_drop_all}
use Rattle.ngc_report.proofs.ReportPrefix.{appends_none}
use Rattle.ngc_text.specs.Collected.{WritesPrefix}
use Rattle.ngc_text.specs.Failures.{CountsFailure}
use Rattle.ngc_lowest_tips.specs.Texts.{tips_text}
use Rattle.ngc_lowest_tips.proofs.Ahead.{tip_stopped, tip_went}
use Rattle.ngc_lowest_tips.proofs.written.collect_tips.Goals as goal

pub loop-tip-init : goal.loop-tip-init
loop-tip-init g c = record { front = ([], appends_none _, refl); failures = refl }

pub returns-in-Err-clause-text : goal.returns-in-Err-clause-text
returns-in-Err-clause-text g c =
    tip_stopped c.args.form c.args.tips.now c.loop-tip.tip-index _ (g.W.Sink.written c.args.sink.now) (g.W.Sink.written c.loop-tip.sink)
    (g.W.Sink.written c.collect_tip.new.sink) (c.args.chunk.now ++ tips_text c.args.form c.args.tips.now) c.loop-tip.chunk c.loop-tip-test.true
    c.loop-tip.invariant.front c.in-Err.ensures.text

pub returns-in-Err-clause-counts : goal.returns-in-Err-clause-counts
returns-in-Err-clause-counts g c =
    subst (λ (n : ℕ). CountsFailure {A = Unit {0}} n (g.W.Sink.failures c.collect_tip.new.sink) (Err c.in-Err.fault))
    c.loop-tip.invariant.failures c.in-Err.ensures.counts

pub loop-tip-preserved : goal.loop-tip-preserved
loop-tip-preserved g c = record {
  front = tip_went c.args.form c.args.tips.now c.loop-tip.tip-index _ (g.W.Sink.written c.args.sink.now) (g.W.Sink.written c.loop-tip.sink)
      (g.W.Sink.written c.collect_tip.new.sink) (c.args.chunk.now ++ tips_text c.args.form c.args.tips.now) c.loop-tip.chunk
      c.collect_tip.new.chunk c.loop-tip-test.true c.loop-tip.invariant.front c.in-Ok.ensures.text;
  failures = search rules;
}

pub returns-clause-text : goal.returns-clause-text
returns-clause-text g c =
    let form = c.args.form in
    let ts = c.args.tips.now in
    let none = at_drop_all (tips_text form) ts c.loop-tip.tip-index c.loop-tip-test.false in
    subst (λ (l : List ℕ). WritesPrefix (g.W.Sink.written c.args.sink.now) (g.W.Sink.written c.loop-tip.sink)
    (c.args.chunk.now ++ tips_text form ts) l)
    (ap (λ l. c.loop-tip.chunk ++ l) none ∙ append-nil c.loop-tip.chunk) c.loop-tip.invariant.front

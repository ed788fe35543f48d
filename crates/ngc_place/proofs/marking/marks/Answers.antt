use Rattle.std.proofs.Common.{arith}
use Rattle.ngc_place.proofs.MarkLaws.{next_action, mark_added, all_marked, other_count}
use Rattle.ngc_place.proofs.marking.marks.Goals as goal

pub returns-then-commands-others : goal.returns-then-commands-others
returns-then-commands-others g c = λ marks h.
    omega (arith, c.if-commands-others.true, other_count c.args.step c.args.by.now marks c.args.commands.now c.args.others.now h)

pub loop-index-preserved : goal.loop-index-preserved
loop-index-preserved g c =
    let i = c.loop-index.index in
    mark_added c.args.step c.args.by.now c.loop-index.start c.reached_moves-start.result c.in-Some.end c.loop-index.marks.items c.push.new.self.items
    c.args.commands.now c.args.others.now i c.index-commands-index.result.action c.index-others-index.result.action
    c.loop-index.invariant c.in_ok-push.ensures.items c.loop-index-test.true
    (next_action i c.args.commands.now c.index-commands-index.result c.loop-index-test.true c.index-commands-index.is)
    (next_action i c.args.others.now c.index-others-index.result (omega (arith, c.loop-index-test.true, c.if-commands-others.false)) c.index-others-index.is)
    c.in-Some.ensures c.reached_moves-start.ensures

pub returns : goal.returns
returns g c =
    all_marked c.args.step c.args.by.now c.loop-index.start c.loop-index.marks.items c.args.commands.now c.args.others.now c.loop-index.index
    c.loop-index.invariant (omega (arith, c.loop-index-test.false, c.loop-index.auto.index-end)) (omega (arith, c.if-commands-others.false))

use Rattle.std.proofs.Common.{arith}
use Rattle.ngc_material.proofs.Deepest.{start_deepest, next_deepest, all_none, all_some}
use Rattle.ngc_material.proofs.touch.deepest_touch.Goals as goal

pub loop-part-init : goal.loop-part-init
loop-part-init c =
    start_deepest c.args.stock.now c.args.cylinder.now c.args.line.now.start c.args.line.now.end c.args.heights.now c.in-Some.tested c.end_probe-probe.result c.touch_at-deepest.result
    c.in-Some.ensures.some c.end_probe-probe.ensures c.touch_at-deepest.ensures.none c.touch_at-deepest.ensures.some

pub loop-part-preserved : goal.loop-part-preserved
loop-part-preserved c =
    rw c.deeper-deepest.ensures
    (next_deepest c.args.stock.now c.args.cylinder.now c.args.line.now.start c.args.line.now.end c.loop-part.part c.args.heights.now c.in-Some.tested c.piece_probe-probe.result
    c.loop-part.deepest c.touch_at.result c.in-Some.ensures.some c.piece_probe-probe.ensures c.touch_at.ensures.none c.touch_at.ensures.some c.loop-part.invariant)

pub returns-clause-none : goal.returns-clause-none
returns-clause-none c =
    all_none c.args.stock.now c.args.cylinder.now c.args.line.now.start c.args.line.now.end c.args.heights.now c.loop-part.part c.loop-part.deepest
    (omega (arith, c.pieces-part-end.ensures.value)) c.loop-part.invariant

pub returns-clause-some : goal.returns-clause-some
returns-clause-some c =
    all_some c.args.stock.now c.args.cylinder.now c.args.line.now.start c.args.line.now.end c.args.heights.now c.loop-part.part c.loop-part.deepest
    (omega (arith, c.pieces-part-end.ensures.value)) c.in-Some.ensures.thick c.loop-part.invariant

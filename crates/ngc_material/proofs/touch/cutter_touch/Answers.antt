use Rattle.ngc_material.proofs.EachDisc.{touch_next, touch_none, touch_some}
use Rattle.ngc_material.proofs.touch.cutter_touch.Goals as goal

pub loop-disc-init : goal.loop-disc-init
loop-disc-init c = λ k d h. absurd h

pub loop-disc-preserved : goal.loop-disc-preserved
loop-disc-preserved c =
    rw c.deeper-deepest.ensures
    (touch_next c.args.stock.now c.args.discs.now c.loop-disc.disc-index c.disc-item.result c.args.line.now.start c.args.line.now.end c.args.heights.now
    c.loop-disc.deepest c.deepest_touch.result c.loop-disc-test.true c.disc-item.is c.loop-disc.invariant c.deepest_touch.ensures.none c.deepest_touch.ensures.some)

pub returns-clause-none : goal.returns-clause-none
returns-clause-none c =
    touch_none c.args.stock.now c.args.discs.now c.loop-disc.disc-index c.args.line.now.start c.args.line.now.end c.args.heights.now c.loop-disc.deepest
    c.loop-disc-test.false c.loop-disc.invariant

pub returns-clause-some : goal.returns-clause-some
returns-clause-some c =
    touch_some c.args.stock.now c.args.discs.now c.loop-disc.disc-index c.args.line.now.start c.args.line.now.end c.args.heights.now c.loop-disc.deepest
    c.loop-disc-test.false c.loop-disc.invariant

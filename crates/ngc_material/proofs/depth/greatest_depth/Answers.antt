use Rattle.ngc_material.proofs.EachDisc.{most_of, depth_next, depth_all}
use Rattle.ngc_material.proofs.depth.greatest_depth.Goals as goal

pub loop-disc-preserved : goal.loop-disc-preserved
loop-disc-preserved c =
    rw (c.max-greatest.ensures, most_of c.loop-disc.greatest c.from_tip.result, c.from_tip.ensures)
    (depth_next c.args.stock.now c.args.tool.now c.args.discs.now c.loop-disc.disc-index c.disc-item.result c.args.line.now.start c.args.line.now.end c.args.heights.now
    c.loop-disc.greatest c.depth_of-depth.result c.loop-disc-test.true c.disc-item.is c.loop-disc.invariant c.depth_of-depth.ensures.value)

pub returns : goal.returns
returns c =
    depth_all c.args.stock.now c.args.tool.now c.args.discs.now c.loop-disc.disc-index c.args.line.now.start c.args.line.now.end c.args.heights.now c.loop-disc.greatest
    c.loop-disc-test.false c.loop-disc.invariant

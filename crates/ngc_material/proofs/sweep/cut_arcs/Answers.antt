use Rattle.std.proofs.Common.{◌∙◌}
use Rattle.ngc_material.proofs.EachDisc.{arc_next, arc_all}
use Rattle.ngc_material.proofs.Within.{arc_count, arc_within}
use Rattle.ngc_material.proofs.sweep.cut_arcs.Goals as goal

pub loop-disc-preserved : goal.loop-disc-preserved
loop-disc-preserved c =
    let s = c.args.stock.now in
    let a = c.args.arc.now in
    let v = c.loop-disc.invariant in
    record {
      count = arc_count s c.disc-item.result a c.loop-disc.heights c.cut_arc.new.heights c.cut_arc.ensures ∙ v.count;
      within = arc_within s c.disc-item.result a c.loop-disc.heights c.cut_arc.new.heights c.cut_arc.ensures v.within;
      cut = arc_next s c.args.discs.now c.loop-disc.disc-index c.disc-item.result a c.args.heights.now c.loop-disc.heights c.cut_arc.new.heights
          c.loop-disc-test.true c.disc-item.is v.cut c.cut_arc.ensures;
    }

pub returns : goal.returns
returns c =
    arc_all c.args.stock.now c.args.discs.now c.loop-disc.disc-index c.args.arc.now c.args.heights.now c.loop-disc.heights
    c.loop-disc-test.false c.loop-disc.invariant.cut

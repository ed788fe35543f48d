use Rattle.std.proofs.Common.{◌∙◌}
use Rattle.ngc_material.proofs.EachDisc.{cut_next, cut_all}
use Rattle.ngc_material.proofs.Within.{cut_count, cut_within}
use Rattle.ngc_material.proofs.cutting.cut_discs.Goals as goal

pub loop-disc-preserved : goal.loop-disc-preserved
loop-disc-preserved c =
    let s = c.args.stock.now in
    let a = c.args.line.now.start in
    let b = c.args.line.now.end in
    let v = c.loop-disc.invariant in
    record {
      count = cut_count s c.disc-item.result a b c.loop-disc.heights c.cut_disc.new.heights c.cut_disc.ensures ∙ v.count;
      within = cut_within s c.disc-item.result a b c.loop-disc.heights c.cut_disc.new.heights c.cut_disc.ensures v.within;
      cut = cut_next s c.args.discs.now c.loop-disc.disc-index c.disc-item.result a b c.args.heights.now c.loop-disc.heights c.cut_disc.new.heights
          c.loop-disc-test.true c.disc-item.is v.cut c.cut_disc.ensures;
    }

pub returns : goal.returns
returns c =
    cut_all c.args.stock.now c.args.discs.now c.loop-disc.disc-index c.args.line.now.start c.args.line.now.end c.args.heights.now c.loop-disc.heights
    c.loop-disc-test.false c.loop-disc.invariant.cut

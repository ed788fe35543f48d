use Rattle.std.proofs.Common.{rules}
use Rattle.ngc_collision.proofs.ToolBoxes.{stacked-more}
use Rattle.ngc_collision.proofs.solid.Solid.stacked.Goals as goal

pub loop-part-preserved : goal.loop-part-preserved
loop-part-preserved c =
    let top = c.top_of-foot.ensures.value in (
      search rules,
      (
        search rules,
        stacked-more _ c.as_slice-part-items.result.now c.loop-part.part-index _ _ _ _ _ _ _ c.loop-part-test.true c.part-item.is
            (search rules) c.filled.ensures c.push.ensures.items c.loop-part.invariant.1.1,
      ),
    )

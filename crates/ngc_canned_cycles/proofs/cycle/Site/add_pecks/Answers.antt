use Rattle.std.proofs.Common.{arith, append_assoc}
use Rattle.ngc_canned_cycles.proofs.Pecks.{flat_map-counting}
use Rattle.ngc_canned_cycles.proofs.cycle.Site.add_pecks.Goals as goal

pub loop-index-preserved : goal.loop-index-preserved
loop-index-preserved g c = record {
  items = rw (flat_map-counting _ c.loop-index.index) (rw (← append_assoc) (rw (← c.loop-index.invariant.items) c.add_peck.ensures.items));
  len = omega arith;
  capacity = cc;
}

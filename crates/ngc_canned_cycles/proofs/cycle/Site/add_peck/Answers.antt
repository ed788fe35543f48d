use Rattle.std.proofs.Common.{arith}
use Rattle.ngc_canned_cycles.proofs.cycle.Site.add_peck.Goals as goal

pub add-requires : goal.add-requires
add-requires g c = omega arith

pub add-requires-then-index-count : goal.add-requires-then-index-count
add-requires-then-index-count g c = omega arith

pub add_way_down-requires : goal.add_way_down-requires
add_way_down-requires g c = omega arith

pub returns-then-index-count-clause-len : goal.returns-then-index-count-clause-len
returns-then-index-count-clause-len g c = omega arith

pub returns-else-index-count-clause-len : goal.returns-else-index-count-clause-len
returns-else-index-count-clause-len g c = omega arith

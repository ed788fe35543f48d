use Rattle.std.proofs.Common.{arith}
use Rattle.ngc_canned_cycles.proofs.cycle.Site.add_approach.Goals as goal

pub add-requires : goal.add-requires
add-requires g c = omega arith

pub add-requires-then-not-is_same : goal.add-requires-then-not-is_same
add-requires-then-not-is_same g c = omega arith

pub returns-then-not-is_same-clause-len : goal.returns-then-not-is_same-clause-len
returns-then-not-is_same-clause-len g c = omega arith

pub returns-else-not-is_same-clause-len : goal.returns-else-not-is_same-clause-len
returns-else-not-is_same-clause-len g c = omega arith

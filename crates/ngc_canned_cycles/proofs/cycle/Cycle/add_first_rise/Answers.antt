use Rattle.std.proofs.Common.{arith}
use Rattle.ngc_canned_cycles.proofs.cycle.Cycle.add_first_rise.Goals as goal

pub add-requires : goal.add-requires
add-requires g c = omega arith

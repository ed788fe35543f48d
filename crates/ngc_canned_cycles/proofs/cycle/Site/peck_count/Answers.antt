use Rattle.std.proofs.Common.{arith}
use Rattle.std.proofs.lemmas.Int.{ints}
use Rattle.ngc_canned_cycles.proofs.cycle.Site.peck_count.Goals as goal

pub peck_count-requires-clause-near : goal.peck_count-requires-clause-near
peck_count-requires-clause-near c = omega (arith, ints)

use Rattle.std.proofs.Common.{arith, rules}
use Rattle.std.proofs.lemmas.Int.{ints}
use Rattle.ngc_canned_cycles.proofs.cycle.Cycle.check.Goals as goal

pub returns-then-retract-bottom-clause-value : goal.returns-then-retract-bottom-clause-value
returns-then-retract-bottom-clause-value c = search rules

pub overflow_sub-retract : goal.overflow_sub-retract
overflow_sub-retract c = omega (arith, ints)

pub has_bad_peck-requires : goal.has_bad_peck-requires
has_bad_peck-requires c = omega (arith, ints)

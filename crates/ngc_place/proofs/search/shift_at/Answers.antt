use Rattle.std.proofs.Common.{arith}
use Rattle.std.proofs.lemmas.Int.{ints}
use Rattle.ngc_place.specs.Longest.{tried}
use Rattle.ngc_place.proofs.TriedShifts.{small_shift}
use Rattle.ngc_place.proofs.search.shift_at.Goals as goal

pub returns-clause-value : goal.returns-clause-value
unfolding tried
returns-clause-value c = omega (arith, ints, small_shift c.args.index)

pub returns-clause-limit : goal.returns-clause-limit
unfolding tried
returns-clause-limit c = omega (arith, ints, small_shift c.args.index)

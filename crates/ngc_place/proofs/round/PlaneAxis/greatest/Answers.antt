use Rattle.std.proofs.Common.{arith}
use Rattle.std.proofs.lemmas.Int.{ints, clamps}
use Rattle.std.proofs.lemmas.Grind.{common_steps}
use Rattle.ngc_place.proofs.round.PlaneAxis.greatest.Goals as goal

pub loop-point-preserved : goal.loop-point-preserved
loop-point-preserved c = (grind (arith, ints, common_steps), omega (arith, ints, clamps))

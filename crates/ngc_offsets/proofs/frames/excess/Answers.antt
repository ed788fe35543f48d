use Rattle.std.proofs.Common.{arith}
use Rattle.std.proofs.lemmas.Int.{ints}
use Rattle.ngc_offsets.proofs.frames.excess.Goals as goal

pub returns : goal.returns
returns c = omega (arith, ints)

use Rattle.std.proofs.Common.{arith}
use Rattle.std.proofs.lemmas.Int.{ints}
use Rattle.ngc_offsets.proofs.frames.Frames.to_program.Goals as goal

pub returns-clause-range : goal.returns-clause-range
returns-clause-range c = grind (arith, ints)

pub returns-clause-reachable : goal.returns-clause-reachable
returns-clause-reachable c = grind (arith, ints)

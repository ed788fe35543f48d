use Rattle.std.proofs.Common.{rules}
use Rattle.ngc_circle_walk.proofs.square.SquareWheelWheel.advance.Goals as goal

pub invariant_of-self : goal.invariant_of-self
invariant_of-self c = search rules

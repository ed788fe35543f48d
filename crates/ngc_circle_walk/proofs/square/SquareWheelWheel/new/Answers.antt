use Rattle.std.proofs.Common.{rules}
use Rattle.ngc_circle_walk.proofs.square.SquareWheelWheel.new.Goals as goal

pub invariant_of-result : goal.invariant_of-result
invariant_of-result c = search rules

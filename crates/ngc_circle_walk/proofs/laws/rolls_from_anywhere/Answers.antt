use Rattle.ngc_circle_walk.proofs.Wheeling.{wheel_rolls}
use Rattle.ngc_circle_walk.proofs.laws.rolls_from_anywhere.Goals as goal

pub returns : goal.returns
returns c = wheel_rolls

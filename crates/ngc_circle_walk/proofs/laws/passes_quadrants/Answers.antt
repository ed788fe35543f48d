use Rattle.ngc_circle_walk.proofs.CircleLaws.{passes_quadrants}
use Rattle.ngc_circle_walk.proofs.laws.passes_quadrants.Goals as goal

pub returns : goal.returns
returns c = passes_quadrants

use Rattle.std.proofs.Common.{rules}
use Rattle.ngc_circle_walk.proofs.spoke.Quadrant.quadrants_to.Goals as goal

pub returns-clause-value : goal.returns-clause-value
returns-clause-value c = search rules

use Rattle.std.proofs.Common.{rules}
use Rattle.ngc_arc_geometry.proofs.cut.GridArc.turns_on.Goals as goal

pub returns-then-shares_quadrant : goal.returns-then-shares_quadrant
returns-then-shares_quadrant c = search rules

use Rattle.std.proofs.Common.{rules}
use Rattle.ngc_arc_geometry.proofs.way.Vector2.shares_quadrant.Goals as goal

pub returns-then-product-ge0 : goal.returns-then-product-ge0
returns-then-product-ge0 c = search rules

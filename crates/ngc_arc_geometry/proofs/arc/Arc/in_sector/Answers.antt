use Rattle.std.proofs.Common.{rules}
use Rattle.ngc_arc_geometry.proofs.arc.Arc.in_sector.Goals as goal

pub returns-then-is_full_circle : goal.returns-then-is_full_circle
returns-then-is_full_circle c = search rules

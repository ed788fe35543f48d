use Rattle.std.proofs.Common.{rules}
use Rattle.ngc_arc_geometry.proofs.cut.GridArc.is_inner_cut.Goals as goal

pub returns-then-in_sector : goal.returns-then-in_sector
returns-then-in_sector c = search rules

pub returns-else-in_sector : goal.returns-else-in_sector
returns-else-in_sector c = search rules

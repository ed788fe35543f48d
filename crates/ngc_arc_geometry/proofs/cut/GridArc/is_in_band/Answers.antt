use Rattle.std.proofs.Common.{rules}
use Rattle.ngc_arc_geometry.proofs.cut.GridArc.is_in_band.Goals as goal

pub returns-then-inner-square : goal.returns-then-inner-square
returns-then-inner-square c = search rules

pub returns-else-inner-square : goal.returns-else-inner-square
returns-else-inner-square c = search rules

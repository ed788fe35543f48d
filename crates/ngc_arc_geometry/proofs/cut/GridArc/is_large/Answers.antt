use Rattle.std.proofs.Common.{rules}
use Rattle.ngc_arc_geometry.proofs.cut.GridArc.is_large.Goals as goal

pub returns : goal.returns
returns c = search rules

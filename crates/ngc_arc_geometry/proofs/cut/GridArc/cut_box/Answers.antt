use Rattle.std.proofs.Common.{rules}
use Rattle.ngc_arc_geometry.proofs.cut.GridArc.cut_box.Goals as goal

pub returns-clause-value : goal.returns-clause-value
returns-clause-value c = search rules

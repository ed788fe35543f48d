use Rattle.std.proofs.Common.{rules}
use Rattle.ngc_arc_geometry.proofs.cut.GridArc.cut_follows.Goals as goal

pub returns-then-last : goal.returns-then-last
returns-then-last c = search rules

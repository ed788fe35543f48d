use Rattle.std.proofs.Common.{rules}
use Rattle.ngc_arc_geometry.proofs.cut.GridArc.new.Goals as goal

pub invariant_of-result : goal.invariant_of-result
invariant_of-result c = search rules

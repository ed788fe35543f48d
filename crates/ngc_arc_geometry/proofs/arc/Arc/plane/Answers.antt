use Rattle.std.proofs.Common.{rules}
use Rattle.ngc_arc_geometry.proofs.arc.Arc.plane.Goals as goal

pub returns : goal.returns
returns c = search rules

use Rattle.std.proofs.Common.{rules}
use Rattle.ngc_arc_geometry.proofs.fault.ArcFault.number.Goals as goal

pub returns-in-RadiiDiffer : goal.returns-in-RadiiDiffer
returns-in-RadiiDiffer c = search rules

pub returns-in-RadiusTooSmall : goal.returns-in-RadiusTooSmall
returns-in-RadiusTooSmall c = search rules

use Rattle.std.proofs.Common.{rules}
use Rattle.ngc_fixed_length.proofs.points.Point3.height.Goals as goal

pub returns-in-ZX : goal.returns-in-ZX
returns-in-ZX c = search rules

use Rattle.std.proofs.Common.{rules}
use Rattle.ngc_fixed_length.proofs.points.Point2.at_height.Goals as goal

pub returns : goal.returns
returns c = search rules

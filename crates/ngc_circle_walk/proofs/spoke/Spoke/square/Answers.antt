use Rattle.std.proofs.Common.{rules}
use Rattle.ngc_circle_walk.proofs.spoke.Spoke.square.Goals as goal

pub returns : goal.returns
returns c = search rules

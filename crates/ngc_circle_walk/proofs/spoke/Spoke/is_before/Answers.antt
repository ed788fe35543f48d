use Rattle.std.proofs.Common.{rules}
use Rattle.ngc_circle_walk.proofs.spoke.Spoke.is_before.Goals as goal

pub returns : goal.returns
returns c = search rules

use Rattle.std.proofs.Common.{rules}
use Rattle.ngc_circle_walk.proofs.spoke.Spoke.rolled.Goals as goal

pub returns-in-Over : goal.returns-in-Over
returns-in-Over c = search rules

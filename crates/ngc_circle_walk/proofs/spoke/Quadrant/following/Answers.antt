use Rattle.std.proofs.Common.{rules}
use Rattle.ngc_circle_walk.proofs.spoke.Quadrant.following.Goals as goal

pub returns-in-Second : goal.returns-in-Second
returns-in-Second c = search rules

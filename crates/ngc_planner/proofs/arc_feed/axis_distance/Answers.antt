use Rattle.std.proofs.Common.{rules}
use Rattle.ngc_planner.proofs.arc_feed.axis_distance.Goals as goal
use Rattle.ngc_planner.proofs.arc_feed.axis_distance.Goals.{in-XY, in-ZX, in-YZ}

pub returns-clause-value : goal.returns-clause-value
returns-clause-value c = elim c.match-plane.branch [ in-XY w ↦ search rules | in-ZX w ↦ search rules | in-YZ w ↦ search rules ]

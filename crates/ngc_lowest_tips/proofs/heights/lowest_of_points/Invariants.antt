use Rattle.std.proofs.Common.{◌≡◌, drop}
use Rattle.ngc_lowest_tips.specs.Heights.{lowest_of_points}
use Rattle.ngc_lowest_tips.proofs.heights.lowest_of_points.Given as goal

abbrev pub invariant-loop-point : goal.invariant-loop-point
invariant-loop-point l = lowest_of_points l.arc l.low (drop l.point-index l.points) ≡ lowest_of_points l.arc l.fn.first l.points

use Rattle.std.proofs.Common.{◌≡◌, drop}
use Rattle.ngc_stock.specs.Below.{with_points}
use Rattle.ngc_material.proofs.below.with_points.Given as goal

abbrev pub invariant-loop-point : goal.invariant-loop-point
invariant-loop-point l = with_points l.arc l.room (drop l.point-index l.points) ≡ with_points l.arc l.fn.room l.points

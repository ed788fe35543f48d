use Rattle.std.proofs.Common.{◌≡◌, take, map}
use Rattle.ngc_picture_shapes.specs.Arcs.{extreme_point}
use Rattle.ngc_picture_shapes.specs.Views.{tip_spot}
use Rattle.ngc_picture_shapes.proofs.strokes.corner_spots.Given as goal

abbrev pub invariant-loop-point : goal.invariant-loop-point
invariant-loop-point l = l.spots.items ≡ map (λ p. tip_spot l.eye (extreme_point l.arc p)) (take l.point-index l.point-items)

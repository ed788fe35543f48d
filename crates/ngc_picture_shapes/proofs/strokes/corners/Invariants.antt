use Rattle.std.proofs.Common.{◌≡◌, take, map}
use Rattle.ngc_picture_shapes.specs.declared.shape.Shape.TheVariants as drawn
use Rattle.ngc_picture_shapes.proofs.strokes.corners.Given as goal

abbrev pub invariant-loop-spot : goal.invariant-loop-spot
invariant-loop-spot l = l.shapes.items ≡ map (drawn.Line) (take l.spot-index l.spot-items)

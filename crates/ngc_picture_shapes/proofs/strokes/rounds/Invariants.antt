use Rattle.std.proofs.Common.{◌≡◌, take, map}
use Rattle.ngc_picture_shapes.specs.Strokes.{round}
use Rattle.ngc_picture_shapes.proofs.strokes.rounds.Given as goal

abbrev pub invariant-loop-spot : goal.invariant-loop-spot
invariant-loop-spot l = l.shapes.items ≡ map (round l.fn.eye.view l.fn.arc) (take l.spot-index l.spot-items)

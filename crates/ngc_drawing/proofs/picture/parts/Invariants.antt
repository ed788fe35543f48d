use Rattle.std.proofs.Common.{◌≡◌, take, map}
use Rattle.ngc_drawing.specs.Pictures.{part}
use Rattle.ngc_drawing.proofs.picture.parts.Given as goal

abbrev pub invariant-loop-one : goal.invariant-loop-one
invariant-loop-one l = l.shapes.items ≡ map part (take l.one-index l.one-items)

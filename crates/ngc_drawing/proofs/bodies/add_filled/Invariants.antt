use Rattle.std.proofs.Common.{◌≡◌, ◌++◌, take, map}
use Rattle.ngc_collision.specs.Inside.{solid_of}
use Rattle.ngc_drawing.specs.Bodies.{body}
use Rattle.ngc_drawing.proofs.bodies.add_filled.Given as goal

abbrev pub invariant-loop-solid : goal.invariant-loop-solid
invariant-loop-solid g l =
    l.shapes.items ≡ l.initial.shapes.items ++ map (λ s. body l.fn.view (solid_of s).low (solid_of s).high) (take l.solid-index l.solid-items)

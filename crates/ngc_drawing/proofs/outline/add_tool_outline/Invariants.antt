use Rattle.std.proofs.Common.{◌≡◌, ◌++◌, take, map}
use Rattle.ngc_collision.specs.Inside.{solid_of}
use Rattle.ngc_drawing.specs.Pictures.{tool_box}
use Rattle.ngc_drawing.proofs.outline.add_tool_outline.Given as goal

abbrev pub invariant-loop-solid : goal.invariant-loop-solid
invariant-loop-solid g l =
    l.shapes.items ≡ l.initial.shapes.items ++ map (λ s. tool_box l.fn.view (solid_of s).low (solid_of s).high) (take l.solid-index l.solid-items)

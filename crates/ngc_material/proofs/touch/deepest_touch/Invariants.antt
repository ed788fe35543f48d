use Rattle.ngc_material.specs.Touches.{IsAtFirst}
use Rattle.ngc_material.proofs.Deepest.{IsDeepestOf}
use Rattle.ngc_material.proofs.touch.deepest_touch.Given as goal

-- the deepest of the cells in the way at the end and at the pieces so far
abbrev pub invariant-loop-part : goal.invariant-loop-part
invariant-loop-part l = IsDeepestOf l.stock.grid (IsAtFirst l.stock l.cylinder l.line.start l.line.end l.part l.heights) l.deepest

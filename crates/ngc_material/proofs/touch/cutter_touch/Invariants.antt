use Rattle.std.proofs.Common.{take}
use Rattle.ngc_material.specs.Touches.{IsInWayOfAny}
use Rattle.ngc_material.proofs.Deepest.{IsDeepestOf}
use Rattle.ngc_material.proofs.touch.cutter_touch.Given as goal

-- the deepest touch of the discs so far
abbrev pub invariant-loop-disc : goal.invariant-loop-disc
invariant-loop-disc l =
    IsDeepestOf l.stock.grid (IsInWayOfAny l.stock (take l.disc-index l.discs) l.line.start l.line.end l.heights) l.deepest

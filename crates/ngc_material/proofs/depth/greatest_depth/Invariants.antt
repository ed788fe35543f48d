use Rattle.std.proofs.Common.{take}
use Rattle.ngc_stock.specs.Cuts.{AreDepths}
use Rattle.ngc_material.proofs.depth.greatest_depth.Given as goal

-- the greatest depth of the discs so far
abbrev pub invariant-loop-disc : goal.invariant-loop-disc
invariant-loop-disc l = AreDepths l.stock l.tool (take l.disc-index l.discs) l.line.start l.line.end l.heights l.greatest

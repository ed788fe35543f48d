-- The remaining parts, after those read, show what all of them show.
use Rattle.std.proofs.Common.{◌≡◌, drop}
use Rattle.ngc_dialect_flow.specs.declared.mark.LineKind.TheVariants as kinds
use Rattle.ngc_dialect_flow.specs.Marks.{marked, unmarked}
use Rattle.ngc_dialect_flow.proofs.mark.mark_of.Given as goal

abbrev pub invariant-loop-part : goal.invariant-loop-part
invariant-loop-part l = record { rest : marked (drop l.part-index l.parts) l.mark ≡ marked l.parts (unmarked kinds.Plain) }

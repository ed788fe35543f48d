use Rattle.std.proofs.Common.{◌≡◌, ◌-◌, ℕ, arith, subst}
use Rattle.ngc_stock.specs.Stocks.{pieces}
use Rattle.ngc_stock.specs.Walk.{ArePiecesCut}
use Rattle.ngc_material.proofs.Ends.{cut_without_end}
use Rattle.ngc_material.proofs.cutting.cut.Goals as goal

pub returns-else-level-piece_level : goal.returns-else-level-piece_level
returns-else-level-piece_level c =
    let s = c.args.stock.now in
    let t = c.args.cylinder.now in
    let a = c.args.line.now.start in
    let b = c.args.line.now.end in
    let whole : c.loop-part.part ≡ pieces a b = omega (arith, c.loop-part-test.false, c.loop-part.auto.part-end, c.pieces-part-end.ensures.value) in
    cut_without_end s t a b (c.pieces.result - 1) c.args.heights.now c.loop-part.heights
    (omega (arith, c.if-from-kappa.false, c.from.ensures, c.kappa-kappa.ensures.value, c.radius-whole.ensures.value))
    (omega (arith, c.pieces.ensures.value, c.pieces.ensures.least))
    (omega (arith, c.if-level-piece_level.false, c.piece_level.ensures, c.end_level-level.ensures))
    (subst (λ (n : ℕ). ArePiecesCut s t a b n c.args.heights.now c.loop-part.heights) whole c.loop-part.invariant.cut)

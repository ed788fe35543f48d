use Rattle.std.proofs.Common.{ℤ, pos, ◌-ℤ◌, arith, ◌∙◌, ap₂}
use Rattle.std.proofs.lemmas.Int.{ints}
use Rattle.ngc_cells.specs.Stretches.{ahead}
use Rattle.ngc_cells.proofs.Kept.{kept64, less64, less128}
use Rattle.ngc_cells.proofs.Rows.{along_zero}
use Rattle.ngc_cells.proofs.band.along_at_zero.Goals as goal

pub overflow_sub-result : goal.overflow_sub-result
overflow_sub-result c = omega (arith, ints, c.product.ensures.bound, c.product-2.ensures.bound)

pub returns-clause-value : goal.returns-clause-value
returns-clause-value c =
    let s = c.args.stretch.now in
    let r = c.requires.stretch in
    let ax = kept64 s.start.x (omega (arith, r.start.x)) in
    let bx = kept64 s.end.x (omega (arith, r.end.x)) in
    let ay = kept64 s.start.y (omega (arith, r.start.y)) in
    let by = kept64 s.end.y (omega (arith, r.end.y)) in
    let dx = less64 s.end.x s.start.x (omega (arith, r.end.x)) (omega (arith, r.start.x)) in
    let dy = less64 s.end.y s.start.y (omega (arith, r.end.y)) (omega (arith, r.start.y)) in
    let y = kept64 c.args.y (omega (arith, c.requires.y)) in
    let rise = kept64 c.ahead-rise.result (omega (arith, c.ahead-rise.ensures.bound)) ∙ rw (ay, by, y) at c.ahead-rise.ensures.value in
    let mid = kept64 c.middle-middle.result (omega (arith, c.middle-middle.ensures.bound)) ∙ rw (ax, bx) at c.middle-middle.ensures.value in
    less128 c.product.result c.product-2.result (omega (arith, c.product.ensures.bound)) (omega (arith, c.product-2.ensures.bound))
    ∙ ap₂ (λ (x y : ℤ). x -ℤ y) (rw (dy, rise) at c.product.ensures.value) (rw (dx, mid) at c.product-2.ensures.value)
    ∙ along_zero (pos s.parts) (pos s.part) (s.end.x -ℤ s.start.x) (s.end.y -ℤ s.start.y) s.start.x (ahead s.parts s.part s.start.y s.end.y c.args.y)

pub returns-clause-bound : goal.returns-clause-bound
returns-clause-bound c =
    let e = less128 c.product.result c.product-2.result (omega (arith, c.product.ensures.bound)) (omega (arith, c.product-2.ensures.bound)) in
    rw e (omega (arith, ints, c.product.ensures.bound, c.product-2.ensures.bound))

use Rattle.std.proofs.Common.{ℤ, ◌+ℤ◌, ◌-ℤ◌, arith, ◌∙◌, ap₂}
use Rattle.std.proofs.lemmas.Int.{ints}
use Rattle.ngc_cells.proofs.Kept.{kept64, less64, plus128}
use Rattle.ngc_cells.proofs.Rows.{aside_zero}
use Rattle.ngc_cells.proofs.band.aside_at_zero.Goals as goal

pub overflow_add-result : goal.overflow_add-result
overflow_add-result c = omega (arith, ints, c.product.ensures.bound, c.product-2.ensures.bound)

pub returns-clause-value : goal.returns-clause-value
returns-clause-value c =
    let s = c.args.stretch.now in
    let r = c.requires.stretch in
    let ax = kept64 s.start.x (omega (arith, r.start.x)) in
    let bx = kept64 s.end.x (omega (arith, r.end.x)) in
    let ay = kept64 s.start.y (omega (arith, r.start.y)) in
    let by = kept64 s.end.y (omega (arith, r.end.y)) in
    let dx = less64 s.end.x s.start.x (omega (arith, r.end.x)) (omega (arith, r.start.x)) in
    let dy = less64 s.end.y s.start.y (omega (arith, r.end.y)) (omega (arith, r.start.y)) in
    let way = less64 c.args.y s.start.y (omega (arith, c.requires.y)) (omega (arith, r.start.y)) in
    plus128 c.product.result c.product-2.result (omega (arith, c.product.ensures.bound)) (omega (arith, c.product-2.ensures.bound))
    ∙ ap₂ (λ (x y : ℤ). x +ℤ y) (rw (dx, way) at c.product.ensures.value) (rw (dy, ax) at c.product-2.ensures.value)
    ∙ aside_zero (s.end.x -ℤ s.start.x) (s.end.y -ℤ s.start.y) s.start.x (c.args.y -ℤ s.start.y)

pub returns-clause-bound : goal.returns-clause-bound
returns-clause-bound c =
    let e = plus128 c.product.result c.product-2.result (omega (arith, c.product.ensures.bound)) (omega (arith, c.product-2.ensures.bound)) in
    rw e (omega (arith, ints, c.product.ensures.bound, c.product-2.ensures.bound))

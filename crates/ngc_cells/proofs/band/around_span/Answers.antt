use Rattle.std.proofs.Common.{◌≡◌, ℤ, pos, to_z, of_z, ◌-ℤ◌, arith, ◌∙◌, ap₂}
use Rattle.std.specs.Int.{w64}
use Rattle.std.proofs.lemmas.Int.{ints}
use Rattle.ngc_cells.specs.Stretches.{ahead}
use Rattle.ngc_cells.proofs.Roots.{around_row}
use Rattle.ngc_cells.proofs.Kept.{kept64, less128}
use Rattle.ngc_cells.proofs.band.around_span.Goals as goal

pub overflow_sub-product : goal.overflow_sub-product
overflow_sub-product c = omega (arith, ints, c.product.ensures.bound, c.product-2.ensures.bound)

pub rooted-requires-clause-room : goal.rooted-requires-clause-room
rooted-requires-clause-room c =
    let e = less128 c.product.result c.product-2.result (omega (arith, c.product.ensures.bound)) (omega (arith, c.product-2.ensures.bound)) in
    rw e (omega (arith, ints, c.product.ensures.bound, c.product-2.ensures.bound))

pub returns : goal.returns
returns c =
    let s = c.args.stretch.now in
    let r = c.requires.stretch in
    let ax = kept64 s.start.x (omega (arith, r.start.x)) in
    let bx = kept64 s.end.x (omega (arith, r.end.x)) in
    let ay = kept64 s.start.y (omega (arith, r.start.y)) in
    let by = kept64 s.end.y (omega (arith, r.end.y)) in
    let y = kept64 c.args.y (omega (arith, c.requires.y)) in
    let mid = kept64 c.middle-middle.result (omega (arith, c.middle-middle.ensures.bound)) ∙ rw (ax, bx) at c.middle-middle.ensures.value in
    let rise = kept64 c.ahead-rise.result (omega (arith, c.ahead-rise.ensures.bound)) ∙ rw (ay, by, y) at c.ahead-rise.ensures.value in
    let radius : to_z w64 (of_z w64 c.from.result) ≡ pos c.args.radius = rw c.from.ensures (kept64 (pos c.args.radius) (omega (arith, c.requires.radius))) in
    let width = kept64 c.times-width.result (omega (arith, c.times-width.ensures.bound)) ∙ rw radius at c.times-width.ensures.value in
    let room = less128 c.product.result c.product-2.result (omega (arith, c.product.ensures.bound)) (omega (arith, c.product-2.ensures.bound))
    ∙ ap₂ (λ (x y : ℤ). x -ℤ y) (rw width at c.product.ensures.value) (rw rise at c.product-2.ensures.value) in
    λ x. around_row x s.parts c.args.part c.args.radius s.start.x s.end.x (ahead s.parts c.args.part s.start.y s.end.y c.args.y) c.rooted.result (rw (mid, room) at (c.rooted.ensures x))

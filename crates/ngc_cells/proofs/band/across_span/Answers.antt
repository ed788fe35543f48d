use Rattle.std.proofs.Common.{◌≡◌, ℤ, ◌+ℤ◌, ◌≤◌, ◌^◌, unsigned_abs, to_z, of_z, ◌-ℤ◌, arith, ◌∙◌, ap₂}
use Rattle.std.specs.Int.{w128}
use Rattle.std.proofs.lemmas.Int.{ints}
use Rattle.ngc_cells.proofs.Kept.{kept64, kept128, less64, less128, plus128}
use Rattle.ngc_cells.proofs.Rows.{across_row}
use Rattle.ngc_cells.proofs.band.across_span.Goals as goal

pub quotients-requires-clause-low : goal.quotients-requires-clause-low
quotients-requires-clause-low c =
    let size : unsigned_abs c.from-width.result ≤ 2 ^ 64 = rw c.from-width.ensures (omega (arith, c.ranges.width)) in
    let e = less128 c.aside_at_zero-aside.result c.from-width.result (omega (arith, c.aside_at_zero-aside.ensures.bound)) (omega (arith, size)) in
    rw e (omega (arith, ints, size, c.aside_at_zero-aside.ensures.bound))

pub quotients-requires-clause-by : goal.quotients-requires-clause-by
quotients-requires-clause-by c =
    let s = c.args.stretch.now in
    let r = c.requires.stretch in
    let dx = less64 s.end.x s.start.x (omega (arith, r.end.x)) (omega (arith, r.start.x)) in
    let dy = less64 s.end.y s.start.y (omega (arith, r.end.y)) (omega (arith, r.start.y)) in
    let up : to_z w128 (of_z w128 c.from-up.result) ≡ s.end.y -ℤ s.start.y = rw (c.from-up.ensures, dy) (kept128 (s.end.y -ℤ s.start.y) (omega (arith, ints, r.start.y, r.end.y))) in
    λ e. c.requires.tilted (omega (arith, ints, up, e))

pub returns : goal.returns
returns c =
    let s = c.args.stretch.now in
    let r = c.requires.stretch in
    let dx = less64 s.end.x s.start.x (omega (arith, r.end.x)) (omega (arith, r.start.x)) in
    let dy = less64 s.end.y s.start.y (omega (arith, r.end.y)) (omega (arith, r.start.y)) in
    let y = kept64 c.args.y (omega (arith, c.requires.y)) in
    let up : to_z w128 (of_z w128 c.from-up.result) ≡ s.end.y -ℤ s.start.y = rw (c.from-up.ensures, dy) (kept128 (s.end.y -ℤ s.start.y) (omega (arith, ints, r.start.y, r.end.y))) in
    let size : unsigned_abs c.from-width.result ≤ 2 ^ 64 = rw c.from-width.ensures (omega (arith, c.ranges.width)) in
    let aside = rw y at c.aside_at_zero-aside.ensures.value in
    let width = c.from-width.ensures in
    let near : unsigned_abs c.aside_at_zero-aside.result ≤ 2 ^ 120 = omega (arith, c.aside_at_zero-aside.ensures.bound) in
    let low = less128 c.aside_at_zero-aside.result c.from-width.result near (omega (arith, size)) ∙ ap₂ (λ (x y : ℤ). x -ℤ y) aside width in
    let high = plus128 c.aside_at_zero-aside.result c.from-width.result near (omega (arith, size)) ∙ ap₂ (λ (x y : ℤ). x +ℤ y) aside width in
    λ x. across_row s c.args.width c.quotients.result x c.args.y (rw (low, high, up) at (c.quotients.ensures x))

use Rattle.std.proofs.Common.{pos, ◌≤ℤ◌, ◌<ℤ◌, ◌≤◌, ◌^◌, unsigned_abs, neg_ℤ, arith}
use Rattle.std.proofs.lemmas.Int.{ints}
use Rattle.ngc_cells.specs.Stretches.{aside, IsAlong, IsBand, spot}
use Rattle.ngc_cells.proofs.Kept.{kept64}
use Rattle.ngc_cells.proofs.Rows.{level_row, level_band, none_row}
use Rattle.ngc_cells.proofs.band.level_span.Goals as goal

pub returns-then-aside-most : goal.returns-then-aside-most
returns-then-aside-most c =
    let y = kept64 c.args.y (omega (arith, c.requires.y)) in
    let s = c.args.stretch.now in
    let at_zero = rw y at c.aside_at_zero-aside.ensures.value in
    let most = c.from-most.ensures in
    let near = c.aside_at_zero-aside.ensures.bound in
    let size : unsigned_abs c.from-most.result ≤ 2 ^ 64 = rw most (omega (arith, c.ranges.width)) in
    let past : c.aside_at_zero-aside.result <ℤ neg_ℤ c.from-most.result = omega (arith, ints, c.if-aside-most.true, near, size) in
    λ x. none_row c.none.result x (IsAlong s (spot x c.args.y) × IsBand s c.args.width (spot x c.args.y)) (c.none.ensures x)
    (λ p. let e = level_row s x c.args.y c.requires.level in omega (arith, ints, p.1.low, e, at_zero, most, past))

pub returns-then-most-aside : goal.returns-then-most-aside
returns-then-most-aside c =
    let y = kept64 c.args.y (omega (arith, c.requires.y)) in
    let s = c.args.stretch.now in
    let at_zero = rw y at c.aside_at_zero-aside.ensures.value in
    let most = c.from-most.ensures in
    let near = c.aside_at_zero-aside.ensures.bound in
    let size : unsigned_abs c.from-most.result ≤ 2 ^ 64 = rw most (omega (arith, c.ranges.width)) in
    let past : c.from-most.result <ℤ c.aside_at_zero-aside.result = omega (arith, ints, c.if-most-aside.true, near, size) in
    λ x. none_row c.none-then-most-aside.result x (IsAlong s (spot x c.args.y) × IsBand s c.args.width (spot x c.args.y)) (c.none-then-most-aside.ensures x)
    (λ p. let e = level_row s x c.args.y c.requires.level in omega (arith, ints, p.1.high, e, at_zero, most, past))

pub returns : goal.returns
returns c =
    let y = kept64 c.args.y (omega (arith, c.requires.y)) in
    let s = c.args.stretch.now in
    let at_zero = rw y at c.aside_at_zero-aside.ensures.value in
    let most = c.from-most.ensures in
    let near = c.aside_at_zero-aside.ensures.bound in
    let size : unsigned_abs c.from-most.result ≤ 2 ^ 64 = rw most (omega (arith, c.ranges.width)) in
    let low : neg_ℤ c.from-most.result ≤ℤ c.aside_at_zero-aside.result = omega (arith, ints, c.if-aside-most.false, near, size) in
    let high : c.aside_at_zero-aside.result ≤ℤ c.from-most.result = omega (arith, ints, c.if-most-aside.false, near, size) in
    let least : neg_ℤ (pos c.args.width) ≤ℤ aside s.start s.end (spot (pos 0) c.args.y) = omega (arith, ints, low, at_zero, most) in
    let greatest : aside s.start s.end (spot (pos 0) c.args.y) ≤ℤ pos c.args.width = omega (arith, ints, high, at_zero, most) in
    λ x. let e = rw y at (c.along_span.ensures x) in (
      (λ i. (e.0 i, level_band s c.args.width x c.args.y c.requires.level least greatest)),
      (λ p. e.1 p.0),
    )

use Rattle.std.proofs.Common.{◌≡◌, pos, ◌≤ℤ◌, ◌<ℤ◌, arith}
use Rattle.std.proofs.lemmas.Int.{ints}
use Rattle.ngc_cells.specs.Stretches.{squared_length, along, IsAlong, IsBand, spot}
use Rattle.ngc_cells.proofs.Kept.{kept64}
use Rattle.ngc_cells.proofs.Rows.{upright_row, upright_along, no_line, none_row}
use Rattle.ngc_cells.proofs.band.upright_span.Goals as goal

pub returns-then-stretch : goal.returns-then-stretch
returns-then-stretch c =
    let s = c.args.stretch.now in
    let level : s.end.y ≡ s.start.y = omega (arith, ints, c.if-stretch.true, c.requires.stretch.start.y, c.requires.stretch.end.y) in
    λ x. none_row c.none.result x (IsAlong s (spot x c.args.y) × IsBand s c.args.width (spot x c.args.y)) (c.none.ensures x)
    (λ p. no_line s x c.args.y c.requires.upright level p.0)

pub returns-then-along-le0 : goal.returns-then-along-le0
returns-then-along-le0 c =
    let y = kept64 c.args.y (omega (arith, c.requires.y)) in
    let s = c.args.stretch.now in
    let at_zero = rw y at c.along_at_zero-along.ensures.value in
    let near = c.along_at_zero-along.ensures.bound in
    let past : c.along_at_zero-along.result ≤ℤ pos 0 = omega (arith, ints, c.if-along-le0.true, near) in
    λ x. none_row c.none-then-along-le0.result x (IsAlong s (spot x c.args.y) × IsBand s c.args.width (spot x c.args.y)) (c.none-then-along-le0.ensures x)
    (λ p. let e = upright_row s x c.args.y c.requires.upright in omega (arith, ints, p.0.after, e, at_zero, past))

pub returns-then-squared_length-along : goal.returns-then-squared_length-along
returns-then-squared_length-along c =
    let y = kept64 c.args.y (omega (arith, c.requires.y)) in
    let s = c.args.stretch.now in
    let at_zero = rw y at c.along_at_zero-along.ensures.value in
    let near = c.along_at_zero-along.ensures.bound in
    let past : c.squared_length.result ≤ℤ c.along_at_zero-along.result = omega (arith, ints, c.if-squared_length-along.true, near, c.squared_length.ensures.bound) in
    λ x. none_row c.none-then-squared_length-along.result x (IsAlong s (spot x c.args.y) × IsBand s c.args.width (spot x c.args.y)) (c.none-then-squared_length-along.ensures x)
    (λ p. let e = upright_row s x c.args.y c.requires.upright in let l = c.squared_length.ensures.value in omega (arith, ints, p.0.before, e, at_zero, past, l))

pub returns : goal.returns
returns c =
    let y = kept64 c.args.y (omega (arith, c.requires.y)) in
    let s = c.args.stretch.now in
    let at_zero = rw y at c.along_at_zero-along.ensures.value in
    let near = c.along_at_zero-along.ensures.bound in
    let after0 : pos 0 <ℤ c.along_at_zero-along.result = omega (arith, ints, c.if-along-le0.false, near) in
    let before0 : c.along_at_zero-along.result <ℤ c.squared_length.result = omega (arith, ints, c.if-squared_length-along.false, near, c.squared_length.ensures.bound) in
    let l = c.squared_length.ensures.value in
    let after : pos 0 <ℤ along s (spot (pos 0) c.args.y) = omega (arith, ints, after0, at_zero) in
    let before : along s (spot (pos 0) c.args.y) <ℤ squared_length s.start s.end = omega (arith, ints, before0, at_zero, l) in
    λ x. let e = rw y at (c.across_span.ensures x) in (
      (λ i. (upright_along s x c.args.y c.requires.upright after before, e.0 i)),
      (λ p. e.1 p.1),
    )

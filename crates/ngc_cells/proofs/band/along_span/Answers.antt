use Rattle.std.proofs.Common.{◌≡◌, ℤ, pos, ◌≤◌, unsigned_abs, to_z, of_z, ◌-ℤ◌, arith, sym, ◌∙◌, ap, ap₂}
use Rattle.std.specs.Int.{w128}
use Rattle.std.proofs.lemmas.Int.{ints}
use Rattle.ngc_cells.proofs.Kept.{kept64, kept128, less64}
use Rattle.ngc_cells.proofs.Rows.{along_row, no_product}
use Rattle.ngc_cells.proofs.band.along_span.Goals as goal

pub overflow_sub-squared_length : goal.overflow_sub-squared_length
overflow_sub-squared_length c =
    let l = kept128 c.squared_length.result (omega (arith, c.squared_length.ensures.bound)) in
    rw l (omega (arith, ints, c.squared_length.ensures.bound))

pub overflow_sub-squared_length-2 : goal.overflow_sub-squared_length-2
overflow_sub-squared_length-2 c =
    let a = kept128 c.along_at_zero-along.result (omega (arith, c.along_at_zero-along.ensures.bound)) in
    let l = kept128 c.squared_length.result (omega (arith, c.squared_length.ensures.bound)) in
    let m : to_z w128 (of_z w128 (to_z w128 (of_z w128 c.squared_length.result) -ℤ pos 1)) ≡ c.squared_length.result -ℤ pos 1 =
    rw l (kept128 (c.squared_length.result -ℤ pos 1) (omega (arith, ints, c.squared_length.ensures.bound))) in
    rw (m, a) (omega (arith, ints, c.squared_length.ensures.bound, c.along_at_zero-along.ensures.bound))

pub quotients-requires-clause-low : goal.quotients-requires-clause-low
quotients-requires-clause-low c =
    let a = kept128 c.along_at_zero-along.result (omega (arith, c.along_at_zero-along.ensures.bound)) in
    let low0 : to_z w128 (of_z w128 (pos 1 -ℤ to_z w128 (of_z w128 c.along_at_zero-along.result))) ≡ pos 1 -ℤ c.along_at_zero-along.result =
    rw a (kept128 (pos 1 -ℤ c.along_at_zero-along.result) (omega (arith, ints, c.along_at_zero-along.ensures.bound))) in
    rw low0 (omega (arith, ints, c.along_at_zero-along.ensures.bound))

pub quotients-requires-clause-high : goal.quotients-requires-clause-high
quotients-requires-clause-high c =
    let a = kept128 c.along_at_zero-along.result (omega (arith, c.along_at_zero-along.ensures.bound)) in
    let l = kept128 c.squared_length.result (omega (arith, c.squared_length.ensures.bound)) in
    let m : to_z w128 (of_z w128 (to_z w128 (of_z w128 c.squared_length.result) -ℤ pos 1)) ≡ c.squared_length.result -ℤ pos 1 =
    rw l (kept128 (c.squared_length.result -ℤ pos 1) (omega (arith, ints, c.squared_length.ensures.bound))) in
    let high0 : to_z w128 (of_z w128 (to_z w128 (of_z w128 (to_z w128 (of_z w128 c.squared_length.result) -ℤ pos 1)) -ℤ to_z w128 (of_z w128 c.along_at_zero-along.result))) ≡ (c.squared_length.result -ℤ pos 1) -ℤ c.along_at_zero-along.result =
    rw (m, a) (kept128 ((c.squared_length.result -ℤ pos 1) -ℤ c.along_at_zero-along.result) (omega (arith, ints, c.squared_length.ensures.bound, c.along_at_zero-along.ensures.bound))) in
    rw high0 (omega (arith, ints, c.squared_length.ensures.bound, c.along_at_zero-along.ensures.bound))

pub quotients-requires-clause-by : goal.quotients-requires-clause-by
quotients-requires-clause-by c =
    let s = c.args.stretch.now in
    let r = c.requires.stretch in
    let dx = less64 s.end.x s.start.x (omega (arith, r.end.x)) (omega (arith, r.start.x)) in
    let dy = less64 s.end.y s.start.y (omega (arith, r.end.y)) (omega (arith, r.start.y)) in
    let size : unsigned_abs c.times.result ≤ 4000000000000 = c.times.ensures.bound in
    let step : to_z w128 (of_z w128 c.from-step.result) ≡ c.times.result = rw (c.from-step.ensures, kept64 c.times.result (omega (arith, size))) (kept128 c.times.result (omega (arith, size))) in
    let times = rw dx at c.times.ensures.value in
    λ e. let d = no_product s.parts (s.end.x -ℤ s.start.x) (omega (arith, r.part)) (sym times ∙ sym step ∙ e) in c.requires.tilted (omega (arith, ints, d))

pub returns : goal.returns
returns c =
    let s = c.args.stretch.now in
    let r = c.requires.stretch in
    let dx = less64 s.end.x s.start.x (omega (arith, r.end.x)) (omega (arith, r.start.x)) in
    let dy = less64 s.end.y s.start.y (omega (arith, r.end.y)) (omega (arith, r.start.y)) in
    let y = kept64 c.args.y (omega (arith, c.requires.y)) in
    let size : unsigned_abs c.times.result ≤ 4000000000000 = c.times.ensures.bound in
    let step : to_z w128 (of_z w128 c.from-step.result) ≡ c.times.result = rw (c.from-step.ensures, kept64 c.times.result (omega (arith, size))) (kept128 c.times.result (omega (arith, size))) in
    let times = rw dx at c.times.ensures.value in
    let a = kept128 c.along_at_zero-along.result (omega (arith, c.along_at_zero-along.ensures.bound)) in
    let low0 : to_z w128 (of_z w128 (pos 1 -ℤ to_z w128 (of_z w128 c.along_at_zero-along.result))) ≡ pos 1 -ℤ c.along_at_zero-along.result =
    rw a (kept128 (pos 1 -ℤ c.along_at_zero-along.result) (omega (arith, ints, c.along_at_zero-along.ensures.bound))) in
    let l = kept128 c.squared_length.result (omega (arith, c.squared_length.ensures.bound)) in
    let m : to_z w128 (of_z w128 (to_z w128 (of_z w128 c.squared_length.result) -ℤ pos 1)) ≡ c.squared_length.result -ℤ pos 1 =
    rw l (kept128 (c.squared_length.result -ℤ pos 1) (omega (arith, ints, c.squared_length.ensures.bound))) in
    let high0 : to_z w128 (of_z w128 (to_z w128 (of_z w128 (to_z w128 (of_z w128 c.squared_length.result) -ℤ pos 1)) -ℤ to_z w128 (of_z w128 c.along_at_zero-along.result))) ≡ (c.squared_length.result -ℤ pos 1) -ℤ c.along_at_zero-along.result =
    rw (m, a) (kept128 ((c.squared_length.result -ℤ pos 1) -ℤ c.along_at_zero-along.result) (omega (arith, ints, c.squared_length.ensures.bound, c.along_at_zero-along.ensures.bound))) in
    let along = rw y at c.along_at_zero-along.ensures.value in
    let low = low0 ∙ ap (λ (z : ℤ). pos 1 -ℤ z) along in
    let high = high0 ∙ ap₂ (λ (l z : ℤ). (l -ℤ pos 1) -ℤ z) c.squared_length.ensures.value along in
    λ x. along_row s c.quotients.result x c.args.y (rw (low, high, step, times) at (c.quotients.ensures x))

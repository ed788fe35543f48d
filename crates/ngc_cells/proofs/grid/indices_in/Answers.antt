use Rattle.std.proofs.Common.{◌≡◌, pos, ◌*◌, ◌+ℤ◌, ◌*ℤ◌, ◌≤◌, ◌^◌, unsigned_abs, to_z, of_z, ◌-ℤ◌, arith, ◌∙◌}
use Rattle.std.specs.Int.{w128}
use Rattle.std.proofs.lemmas.Int.{ints}
use Rattle.ngc_cells.proofs.Kept.{kept64, kept128, plus128}
use Rattle.ngc_cells.specs.Grids.{middle_of}
use Rattle.ngc_cells.proofs.Grids.{indices_are, middle_small}
use Rattle.ngc_cells.proofs.grid.indices_in.Goals as goal

pub returns-clause-are : goal.returns-clause-are
returns-clause-are c =
    let corner = kept64 c.args.corner (omega (arith, c.requires.corner)) in
    let f : c.from.result ≡ c.args.corner = c.from.ensures ∙ corner in
    let g = c.from-2.ensures in
    let fs : unsigned_abs c.from.result ≤ 2 ^ 60 = rw f (omega (arith, c.requires.corner)) in
    let gs : unsigned_abs c.from-2.result ≤ 2 ^ 60 = rw g (omega (arith, c.ranges.half)) in
    let base = plus128 c.from.result c.from-2.result (omega (arith, fs)) (omega (arith, gs)) in
    let ls = c.limited.ensures.bound in
    let hs = c.limited-2.ensures.bound in
    let l = kept128 c.limited.result (omega (arith, ls)) in
    let h = kept128 c.limited-2.result (omega (arith, hs)) in
    let low : to_z w128 (of_z w128 (to_z w128 (of_z w128 c.limited.result) -ℤ to_z w128 (of_z w128 (to_z w128 (of_z w128 c.from.result) +ℤ to_z w128 (of_z w128 c.from-2.result))))) ≡ c.limited.result -ℤ (c.from.result +ℤ c.from-2.result) =
    rw (l, base) (kept128 (c.limited.result -ℤ (c.from.result +ℤ c.from-2.result)) (omega (arith, ints, ls, fs, gs))) in
    let high : to_z w128 (of_z w128 (to_z w128 (of_z w128 c.limited-2.result) -ℤ to_z w128 (of_z w128 (to_z w128 (of_z w128 c.from.result) +ℤ to_z w128 (of_z w128 c.from-2.result))))) ≡ c.limited-2.result -ℤ (c.from.result +ℤ c.from-2.result) =
    rw (h, base) (kept128 (c.limited-2.result -ℤ (c.from.result +ℤ c.from-2.result)) (omega (arith, ints, hs, fs, gs))) in
    let half : to_z w128 (of_z w128 c.from-3.result) ≡ pos c.args.half = rw c.from-3.ensures (kept128 (pos c.args.half) (omega (arith, c.ranges.half))) in
    let by : to_z w128 (of_z w128 (pos 2 *ℤ to_z w128 (of_z w128 c.from-3.result))) ≡ pos (2 * c.args.half) = rw half (kept128 (pos (2 * c.args.half)) (omega (arith, c.ranges.half))) in
    let ql : to_z w128 (of_z w128 c.quotients-indices.result.low) ≡ c.quotients-indices.result.low = omega (arith, ints) in
    let qh : to_z w128 (of_z w128 c.quotients-indices.result.high) ≡ c.quotients-indices.result.high = omega (arith, ints) in
    let pl : to_z w128 (of_z w128 c.args.span.now.low) ≡ c.args.span.now.low = omega (arith, ints) in
    let ph : to_z w128 (of_z w128 c.args.span.now.high) ≡ c.args.span.now.high = omega (arith, ints) in
    λ i less.
    let m = middle_small c.args.corner c.args.half i c.args.count c.requires.corner c.requires.fits less in
    let q = rw (low, high, by, f, g) at (c.quotients-indices.ensures (pos i)) in
    let sl = c.limited.ensures.low (middle_of c.args.corner c.args.half i) m in
    let sh = c.limited-2.ensures.high (middle_of c.args.corner c.args.half i) m in
    indices_are c.args.corner c.limited.result c.limited-2.result c.args.half i c.first_from.result c.end_after.result c.args.span.now c.quotients-indices.result
    (rw ql at (c.first_from.ensures.value i less)) (rw qh at (c.end_after.ensures.value i less)) q (rw pl at sl) (rw ph at sh)

use Rattle.std.proofs.Common.{rules, arith, ◌<◌, ◌^◌, ℤ, ◌-ℤ◌, FitsSigned, unsigned_abs}
use Rattle.std.specs.Int.{w32, w64, w128}
use Rattle.std.proofs.lemmas.Int.{ints, to_z-of_z}
use Rattle.ngc_drawing.proofs.label.place_down.Goals as goal

difference_fits : (a b : ℤ) → unsigned_abs a < 2 ^ 92 → unsigned_abs b < 2 ^ 92 → FitsSigned w128 (a -ℤ b)
difference_fits a b small low = omega (arith, ints)

difference_small : (a b : ℤ) → unsigned_abs a < 2 ^ 92 → unsigned_abs b < 2 ^ 92 → unsigned_abs (a -ℤ b) < 2 ^ 93
difference_small a b small low = omega (arith, ints)

pub overflow_sub-result : goal.overflow_sub-result
overflow_sub-result c =
    let first = to_z-of_z w128 c.tenths.result (record { sfits = c.tenths.type_inv }) in
    let second = to_z-of_z w128 c.tenfold.result (record { sfits = c.tenfold.type_inv }) in
    rw (first, second) (difference_fits c.tenths.result c.tenfold.result c.tenths.ensures.bound c.tenfold.ensures.bound)

pub returns-clause-value : goal.returns-clause-value
returns-clause-value c =
    let first = to_z-of_z w128 c.tenths.result (record { sfits = c.tenths.type_inv }) in
    let second = to_z-of_z w128 c.tenfold.result (record { sfits = c.tenfold.type_inv }) in
    let fits = difference_fits c.tenths.result c.tenfold.result c.tenths.ensures.bound c.tenfold.ensures.bound in
    let whole = to_z-of_z w128 (c.tenths.result -ℤ c.tenfold.result) fits in
    let up : FitsSigned w64 c.args.at.now.up = search rules in
    let down = rw (to_z-of_z w32 c.args.down c.ranges.down) at c.tenths.ensures.value in
    let height = rw (to_z-of_z w64 c.args.at.now.up up) at c.tenfold.ensures.value in
    rw (first, second, whole, down, height)

pub returns-clause-bound : goal.returns-clause-bound
returns-clause-bound c =
    let first = to_z-of_z w128 c.tenths.result (record { sfits = c.tenths.type_inv }) in
    let second = to_z-of_z w128 c.tenfold.result (record { sfits = c.tenfold.type_inv }) in
    let fits = difference_fits c.tenths.result c.tenfold.result c.tenths.ensures.bound c.tenfold.ensures.bound in
    let whole = to_z-of_z w128 (c.tenths.result -ℤ c.tenfold.result) fits in
    rw (first, second, whole) (difference_small c.tenths.result c.tenfold.result c.tenths.ensures.bound c.tenfold.ensures.bound)

use Rattle.std.proofs.Common.{rules, arith, ◌<◌, ◌^◌, ℤ, ◌+ℤ◌, FitsSigned, unsigned_abs}
use Rattle.std.specs.Int.{w32, w64, w128}
use Rattle.std.proofs.lemmas.Int.{ints, to_z-of_z}
use Rattle.ngc_drawing.proofs.label.place_across.Goals as goal

sum_fits : (a b : ℤ) → unsigned_abs a < 2 ^ 92 → unsigned_abs b < 2 ^ 92 → FitsSigned w128 (a +ℤ b)
sum_fits a b small low = omega (arith, ints)

sum_small : (a b : ℤ) → unsigned_abs a < 2 ^ 92 → unsigned_abs b < 2 ^ 92 → unsigned_abs (a +ℤ b) < 2 ^ 93
sum_small a b small low = omega (arith, ints)

pub overflow_add-result : goal.overflow_add-result
overflow_add-result c =
    let first = to_z-of_z w128 c.tenfold.result (record { sfits = c.tenfold.type_inv }) in
    let second = to_z-of_z w128 c.tenths.result (record { sfits = c.tenths.type_inv }) in
    rw (first, second) (sum_fits c.tenfold.result c.tenths.result c.tenfold.ensures.bound c.tenths.ensures.bound)

pub returns-clause-value : goal.returns-clause-value
returns-clause-value c =
    let first = to_z-of_z w128 c.tenfold.result (record { sfits = c.tenfold.type_inv }) in
    let second = to_z-of_z w128 c.tenths.result (record { sfits = c.tenths.type_inv }) in
    let fits = sum_fits c.tenfold.result c.tenths.result c.tenfold.ensures.bound c.tenths.ensures.bound in
    let whole = to_z-of_z w128 (c.tenfold.result +ℤ c.tenths.result) fits in
    let far : FitsSigned w64 c.args.at.now.across = search rules in
    let from : FitsSigned w32 c.args.anchor.now.across = search rules in
    let spot = rw (to_z-of_z w64 c.args.at.now.across far) at c.tenfold.ensures.value in
    let text = rw (to_z-of_z w32 c.args.anchor.now.across from) at c.tenths.ensures.value in
    rw (first, second, whole, spot, text)

pub returns-clause-bound : goal.returns-clause-bound
returns-clause-bound c =
    let first = to_z-of_z w128 c.tenfold.result (record { sfits = c.tenfold.type_inv }) in
    let second = to_z-of_z w128 c.tenths.result (record { sfits = c.tenths.type_inv }) in
    let fits = sum_fits c.tenfold.result c.tenths.result c.tenfold.ensures.bound c.tenths.ensures.bound in
    let whole = to_z-of_z w128 (c.tenfold.result +ℤ c.tenths.result) fits in
    rw (first, second, whole) (sum_small c.tenfold.result c.tenths.result c.tenfold.ensures.bound c.tenths.ensures.bound)

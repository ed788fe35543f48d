use Rattle.std.proofs.Common.{arith, ◌≤◌, ◌^◌, ℤ, ◌+ℤ◌, FitsSigned, unsigned_abs}
use Rattle.std.specs.Int.{w64}
use Rattle.std.proofs.lemmas.Int.{ints, to_z-of_z}
use Rattle.ngc_arc_geometry.proofs.lengths.halfway.Goals as goal

sum_fits : (a b : ℤ) → unsigned_abs a ≤ 10 ^ 11 → unsigned_abs b ≤ 10 ^ 11 → FitsSigned w64 (a +ℤ b)
sum_fits a b small low = omega (arith, ints)

pub overflow_add-sum : goal.overflow_add-sum
overflow_add-sum c =
    let from = to_z-of_z w64 c.nanometres.result (record { sfits = c.nanometres.type_inv }) in
    let to = to_z-of_z w64 c.nanometres-2.result (record { sfits = c.nanometres-2.type_inv }) in
    rw (from, to) (sum_fits c.nanometres.result c.nanometres-2.result c.nanometres.ensures.bound c.nanometres-2.ensures.bound)

pub div_euclid-requires-clause-no_overflow : goal.div_euclid-requires-clause-no_overflow
div_euclid-requires-clause-no_overflow c = λ two least. omega (arith, two)

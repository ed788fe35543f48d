use Rattle.std.proofs.Common.{arith, ◌≡◌, ◌≤◌, ℕ, ℤ, pos, negsuc, ◌+ℤ◌, ◌-ℤ◌, FitsSigned, unsigned_abs, to_z, of_z}
use Rattle.std.specs.Int.{w64}
use Rattle.std.proofs.lemmas.Int.{ints, to_z-of_z}
use Rattle.ngc_fixed_length.specs.Length.{IsStep}
use Rattle.ngc_certificate.proofs.furthest.after_multiple_below.Goals.{After-rem_euclid}
use Rattle.ngc_certificate.proofs.furthest.after_multiple_below.Goals as goal

small_step : (g : ℤ) → IsStep g → unsigned_abs g ≤ 50000
small_step g step = omega (arith, ints, step.least, step.greatest)

not_minus_one : (g : ℤ) (n : ℕ) → IsStep g → of_z w64 g ≡ 18446744073709551615 → n ≡ 9223372036854775808 → ⊥
not_minus_one (pos k) n step one least = omega (arith, ints, step.greatest)
not_minus_one (negsuc k) n step one least = omega (arith, ints, step.least)

negative_fits : (z : ℤ) → unsigned_abs z ≤ 200000000000000 → FitsSigned w64 (pos 0 -ℤ z)
negative_fits z small = omega (arith, ints)

-- the sum with a remainder, less a step, plus one
sum_small : (z r : ℤ) → unsigned_abs z ≤ 200000000000000 → unsigned_abs r ≤ 50000 → unsigned_abs (z +ℤ r) ≤ 200000000050000
sum_small z r small short = omega (arith, ints)

less_small : (z g : ℤ) → unsigned_abs z ≤ 200000000050000 → unsigned_abs g ≤ 50000 → unsigned_abs (z -ℤ g) ≤ 200000000100000
less_small z g small short = omega (arith, ints)

next_small : (z : ℤ) → unsigned_abs z ≤ 200000000100000 → unsigned_abs (z +ℤ pos 1) ≤ 200000000100001
next_small z small = omega (arith, ints)

fits : (z : ℤ) → unsigned_abs z ≤ 200000000100001 → FitsSigned w64 z
fits z small = omega (arith, ints)

-- the numbers of the body
coordinate : (c : After-rem_euclid) → to_z w64 (of_z w64 c.args.coordinate) ≡ c.args.coordinate
coordinate c = to_z-of_z w64 c.args.coordinate c.ranges.coordinate

rest : (c : After-rem_euclid) → to_z w64 (of_z w64 c.rem_euclid.result) ≡ c.rem_euclid.result
rest c = to_z-of_z w64 c.rem_euclid.result (record { sfits = c.rem_euclid.type_inv })

step : (c : After-rem_euclid) → to_z w64 (of_z w64 c.nanometres-step.result) ≡ c.nanometres-step.result
step c = to_z-of_z w64 c.nanometres-step.result (record { sfits = c.nanometres-step.type_inv })

step_size : (c : After-rem_euclid) → unsigned_abs c.nanometres-step.result ≤ 50000
step_size c = rw c.nanometres-step.ensures.value (small_step c.args.step c.requires.step)

rest_size : (c : After-rem_euclid) → unsigned_abs c.rem_euclid.result ≤ 50000
rest_size c =
    let below = rw (step c) at c.rem_euclid.ensures.upper_bound in
    omega (arith, below, step_size c)

sum_size : (c : After-rem_euclid) → unsigned_abs (c.args.coordinate +ℤ c.rem_euclid.result) ≤ 200000000050000
sum_size c = sum_small c.args.coordinate c.rem_euclid.result c.requires.coordinate (rest_size c)

sum : (c : After-rem_euclid) →
    to_z w64 (of_z w64 (c.args.coordinate +ℤ c.rem_euclid.result)) ≡ c.args.coordinate +ℤ c.rem_euclid.result
sum c = to_z-of_z w64 (c.args.coordinate +ℤ c.rem_euclid.result) (fits _ (omega (arith, sum_size c)))

less_size : (c : After-rem_euclid) → unsigned_abs (c.args.coordinate +ℤ c.rem_euclid.result -ℤ c.nanometres-step.result) ≤ 200000000100000
less_size c = less_small (c.args.coordinate +ℤ c.rem_euclid.result) c.nanometres-step.result (sum_size c) (step_size c)

less : (c : After-rem_euclid) →
    to_z w64 (of_z w64 (c.args.coordinate +ℤ c.rem_euclid.result -ℤ c.nanometres-step.result))
    ≡ c.args.coordinate +ℤ c.rem_euclid.result -ℤ c.nanometres-step.result
less c = to_z-of_z w64 (c.args.coordinate +ℤ c.rem_euclid.result -ℤ c.nanometres-step.result) (fits _ (omega (arith, less_size c)))

next_size : (c : After-rem_euclid) →
    unsigned_abs (c.args.coordinate +ℤ c.rem_euclid.result -ℤ c.nanometres-step.result +ℤ pos 1) ≤ 200000000100001
next_size c = next_small (c.args.coordinate +ℤ c.rem_euclid.result -ℤ c.nanometres-step.result) (less_size c)

next : (c : After-rem_euclid) →
    to_z w64 (of_z w64 (c.args.coordinate +ℤ c.rem_euclid.result -ℤ c.nanometres-step.result +ℤ pos 1))
    ≡ c.args.coordinate +ℤ c.rem_euclid.result -ℤ c.nanometres-step.result +ℤ pos 1
next c = to_z-of_z w64 (c.args.coordinate +ℤ c.rem_euclid.result -ℤ c.nanometres-step.result +ℤ pos 1) (fits _ (next_size c))

pub overflow_sub-coordinate : goal.overflow_sub-coordinate
overflow_sub-coordinate c = rw (to_z-of_z w64 c.args.coordinate c.ranges.coordinate) (negative_fits c.args.coordinate c.requires.coordinate)

pub rem_euclid-requires-clause-no_overflow : goal.rem_euclid-requires-clause-no_overflow
rem_euclid-requires-clause-no_overflow c =
    let same = to_z-of_z w64 c.nanometres-step.result (record { sfits = c.nanometres-step.type_inv }) in
    rw (same, c.nanometres-step.ensures.value) (not_minus_one c.args.step _ c.requires.step)

pub overflow_add-result : goal.overflow_add-result
overflow_add-result c = rw (coordinate c, rest c) (fits _ (omega (arith, sum_size c)))

pub overflow_sub-result : goal.overflow_sub-result
overflow_sub-result c = rw (coordinate c, rest c, sum c, step c) (fits _ (omega (arith, less_size c)))

pub overflow_add-result-2 : goal.overflow_add-result-2
overflow_add-result-2 c = rw (coordinate c, rest c, sum c, step c, less c) (fits _ (next_size c))

pub returns : goal.returns
returns c = rw (coordinate c, rest c, sum c, step c, less c, next c) (next_size c)

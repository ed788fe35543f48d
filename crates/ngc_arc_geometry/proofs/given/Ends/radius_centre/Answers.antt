use Rattle.std.proofs.Common.{◌≡◌, ℕ, ◌+◌, ◌*◌, ◌≤◌, nat_le, true, ℤ, pos, negsuc, int_lt, unsigned_abs, to_z, of_z, Ok, ap, refl, arith, rules}
use Rattle.std.specs.Int.{w64}
use Rattle.std.proofs.lemmas.Bool.Decides.{nat_tests}
use Rattle.std.proofs.lemmas.Int.{ints}
use Rattle.ngc_fixed_length.specs.Signed.{is_negative}
use Rattle.ngc_arc_geometry.specs.Centre.{chord_square}
use Rattle.ngc_arc_geometry.proofs.CentreRange.{range_at_middle}
use Rattle.ngc_arc_geometry.proofs.Machine.{square_fits, four_squares_fit, reach_fits}
use Rattle.ngc_arc_geometry.proofs.given.Ends.radius_centre.Goals as goal

pub returns-then-square-reach-clause-radii : goal.returns-then-square-reach-clause-radii
returns-then-square-reach-clause-radii c =
    let size : c.from-size.result ≡ unsigned_abs c.args.radius = omega (arith, ints) in
    let chord : c.square-square.result ≡ chord_square c.args.self.now = cc in
    let reached : chord_square c.args.self.now ≤ 4 * (unsigned_abs c.args.radius + c.args.tolerance) * (unsigned_abs c.args.radius + c.args.tolerance) =
    rw (← chord, ← size) c.if-square-reach.true in
    rw c.middle.ensures (range_at_middle c.args.self.now c.args.tolerance (unsigned_abs c.args.radius) (omega arith) c.requires.tolerance reached)

-- tests
reached : (n m : ℕ) → n ≤ m → nat_le n m ≡ true
reached n m less = grind (arith, nat_tests)

below_zero : (z : ℤ) → int_lt z (pos 0) ≡ is_negative z
below_zero (pos n) = grind (arith, nat_tests)
below_zero (negsuc n) = refl

pub returns-then-square-size-clause-value : goal.returns-then-square-size-clause-value
returns-then-square-size-clause-value c =
    let e = c.args.self.now in
    let r = c.args.radius in
    let size : c.from-size.result ≡ unsigned_abs r = omega (arith, ints) in
    let chord : c.square-square.result ≡ chord_square e = cc in
    let length_is : to_z w64 (of_z w64 c.nanometres-then-square-size.result) ≡ r = omega (arith, ints) in
    let short : chord_square e ≤ 4 * (unsigned_abs r * unsigned_abs r) = rw (← chord, ← size) c.if-square-size.true in
    let test = reached (chord_square e) (4 * (unsigned_abs r * unsigned_abs r)) short in
    let value = rw (size, length_is, below_zero r) at c.centre_aside.ensures.value in
    rw test (ap Ok value)

pub overflow_mul-size : goal.overflow_mul-size
overflow_mul-size c = square_fits c.from-size.result (omega (arith, ints))

pub overflow_mul-size-2 : goal.overflow_mul-size-2
overflow_mul-size-2 c = four_squares_fit c.from-size.result (omega (arith, ints))

pub overflow_mul-size-then-square-size : goal.overflow_mul-size-then-square-size
overflow_mul-size-then-square-size c = square_fits c.from-size.result (omega (arith, ints))

pub overflow_mul-reach : goal.overflow_mul-reach
overflow_mul-reach c = omega (arith, ints)

pub overflow_mul-reach-else-square-size : goal.overflow_mul-reach-else-square-size
overflow_mul-reach-else-square-size c = reach_fits c.from-size.result c.args.tolerance (omega (arith, ints)) c.requires.tolerance

pub returns-then-square-reach-clause-value : goal.returns-then-square-reach-clause-value
returns-then-square-reach-clause-value c = search rules

pub returns-else-square-reach-clause-value : goal.returns-else-square-reach-clause-value
returns-else-square-reach-clause-value c = search rules

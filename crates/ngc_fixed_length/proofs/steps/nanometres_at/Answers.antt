use Rattle.std.proofs.Common.{arith, ◌*ℤ◌, ◌≡◌, ◌≤◌, FitsSigned, unsigned_abs, to_z, of_z, w64, lit<}
use Rattle.std.proofs.lemmas.Int.{ints, to_z-of_z, fits_signed_mul, unsigned_abs-mul}
use Rattle.std.proofs.lemmas.Nat.{mul-le}
use Rattle.ngc_fixed_length.proofs.steps.nanometres_at.Goals as goal

left : (c : goal.After-nanometres) → to_z w64 (of_z w64 c.from.result) ≡ c.args.steps
left c = omega (arith, ints)

right : (c : goal.After-nanometres) → to_z w64 (of_z w64 c.nanometres.result) ≡ c.args.step
right c = omega (arith, ints)

few : (c : goal.After-nanometres) → unsigned_abs c.args.steps ≤ 2147483648
few c = omega (arith, ints)

small : (c : goal.After-nanometres) → unsigned_abs c.args.step ≤ 50000
small c = omega (arith, ints)

fits : (c : goal.After-nanometres) → FitsSigned w64 (c.args.steps *ℤ c.args.step)
fits c = fits_signed_mul w64 c.args.steps c.args.step 2147483648 50000 (few c) (small c) (lit< tt)

pub overflow_mul-result : goal.overflow_mul-result
overflow_mul-result c = rw (left c, right c) (fits c)

pub returns-clause-value : goal.returns-clause-value
returns-clause-value c = rw (left c, right c) (to_z-of_z w64 (c.args.steps *ℤ c.args.step) (fits c))

pub returns-clause-bound : goal.returns-clause-bound
returns-clause-bound c =
    rw (returns-clause-value c, unsigned_abs-mul c.args.steps c.args.step)
    (mul-le (unsigned_abs c.args.steps) (unsigned_abs c.args.step) 2147483648 50000 (few c) (small c))

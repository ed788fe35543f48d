use Rattle.std.proofs.Common.{arith, ◌*ℤ◌, ◌≡◌, FitsSigned, unsigned_abs, to_z, of_z, lit<}
use Rattle.std.specs.Int.{w128}
use Rattle.std.proofs.lemmas.Int.{ints, to_z-of_z, fits_signed_mul, unsigned_abs-mul}
use Rattle.std.proofs.lemmas.Nat.{mul-le}
use Rattle.ngc_planner.proofs.displacement.product.Goals as goal

left : (c : goal.After-from-2) → to_z w128 (of_z w128 c.from.result) ≡ c.args.a
left c = omega (arith, ints)

right : (c : goal.After-from-2) → to_z w128 (of_z w128 c.from-2.result) ≡ c.args.b
right c = omega (arith, ints)

fits : (c : goal.After-from-2) → FitsSigned w128 (c.args.a *ℤ c.args.b)
fits c = fits_signed_mul w128 c.args.a c.args.b 200000000000 200000000000 c.requires.a c.requires.b (lit< tt)

pub overflow_mul-result : goal.overflow_mul-result
overflow_mul-result c = rw (left c, right c) (fits c)

pub returns-clause-value : goal.returns-clause-value
returns-clause-value c = rw (left c, right c) (to_z-of_z w128 (c.args.a *ℤ c.args.b) (fits c))

pub returns-clause-bound : goal.returns-clause-bound
returns-clause-bound c =
    rw (returns-clause-value c, unsigned_abs-mul c.args.a c.args.b)
    (mul-le (unsigned_abs c.args.a) (unsigned_abs c.args.b) 200000000000 200000000000 c.requires.a c.requires.b)

use Rattle.std.proofs.Common.{◌≡◌, ◌*ℤ◌, to_z, of_z, arith, lit<, FitsSigned}
use Rattle.std.specs.Prelude.{unsigned_abs}
use Rattle.std.specs.Int.{w128}
use Rattle.std.proofs.lemmas.Int.{ints, to_z-of_z, fits_signed_mul, unsigned_abs-mul}
use Rattle.std.proofs.lemmas.Nat.{mul-le}
use Rattle.ngc_material.proofs.spoke.squared.Goals as goal

-- the product fits in 128 bits
fits : (c : goal.After-from-2) → FitsSigned w128 (c.args.x *ℤ c.args.x)
fits c = fits_signed_mul w128 c.args.x c.args.x 4800000000 4800000000 c.requires c.requires (lit< tt)

-- both factors are unchanged in 128 bits
left : (c : goal.After-from-2) → to_z w128 (of_z w128 c.from.result) ≡ c.args.x
left c = omega (arith, ints)

right : (c : goal.After-from-2) → to_z w128 (of_z w128 c.from-2.result) ≡ c.args.x
right c = omega (arith, ints)

pub overflow_mul-result : goal.overflow_mul-result
overflow_mul-result c = rw (left c, right c) (fits c)

pub returns-clause-value : goal.returns-clause-value
returns-clause-value c = rw (left c, right c) (to_z-of_z w128 (c.args.x *ℤ c.args.x) (fits c))

pub returns-clause-bound : goal.returns-clause-bound
returns-clause-bound c =
    let most = mul-le (unsigned_abs c.args.x) (unsigned_abs c.args.x) 4800000000 4800000000 c.requires c.requires in
    rw (returns-clause-value c, unsigned_abs-mul c.args.x c.args.x) (omega (arith, most))

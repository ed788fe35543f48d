use Rattle.std.proofs.Common.{◌≡◌, ◌*ℤ◌, pos, unsigned_abs, to_z, of_z, arith, lit<, FitsSigned}
use Rattle.std.specs.Int.{w128}
use Rattle.std.proofs.lemmas.Int.{ints, to_z-of_z, fits_signed_mul, unsigned_abs-mul}
use Rattle.std.proofs.lemmas.Nat.{mul-le}
use Rattle.ngc_fixed_length.specs.Limits.{IsLength}
use Rattle.ngc_canned_cycles.proofs.heights.times.Goals as goal

-- what is multiplied is a length
is_length : (c : goal.After-from-2) → IsLength c.args.length
is_length c = rw (← c.nanometres.ensures.value) c.nanometres.ensures.bound

-- the product fits in 128 bits
fits : (c : goal.After-from-2) → FitsSigned w128 (pos c.args.count *ℤ c.args.length)
fits c = fits_signed_mul w128 (pos c.args.count) c.args.length 18446744073709551616 100000000000 (omega arith) (is_length c) (lit< tt)

-- both factors are unchanged in 128 bits
left : (c : goal.After-from-2) → to_z w128 (of_z w128 c.from.result) ≡ pos c.args.count
left c = omega (arith, ints)

right : (c : goal.After-from-2) → to_z w128 (of_z w128 c.from-2.result) ≡ c.args.length
right c = omega (arith, ints)

pub overflow_mul-result : goal.overflow_mul-result
overflow_mul-result c = rw (left c, right c) (fits c)

pub returns-clause-value : goal.returns-clause-value
returns-clause-value c = rw (left c, right c) (to_z-of_z w128 (pos c.args.count *ℤ c.args.length) (fits c))

pub returns-clause-bound : goal.returns-clause-bound
returns-clause-bound c =
    let most = mul-le c.args.count (unsigned_abs c.args.length) 18446744073709551616 100000000000 (omega arith) (is_length c) in
    rw (returns-clause-value c, unsigned_abs-mul (pos c.args.count) c.args.length) (omega (arith, most))

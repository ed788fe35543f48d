use Rattle.std.proofs.Common.{◌≡◌, pos, ◌*ℤ◌, to_z, of_z, unsigned_abs, arith, lit<, FitsSigned}
use Rattle.std.specs.Int.{w64}
use Rattle.std.proofs.lemmas.Int.{ints, to_z-of_z, fits_signed_mul, unsigned_abs-mul}
use Rattle.std.proofs.lemmas.Nat.{mul-le}
use Rattle.ngc_cells.proofs.band.times.Goals as goal

-- the product fits in 64 bits
fits : (c : goal.After-from) → FitsSigned w64 (pos c.args.count *ℤ c.args.way)
fits c = fits_signed_mul w64 (pos c.args.count) c.args.way 1000 4000000000 c.requires.count c.requires.way (lit< tt)

-- both factors are unchanged in 64 bits
left : (c : goal.After-from) → to_z w64 (of_z w64 c.from.result) ≡ pos c.args.count
left c = omega (arith, ints)

right : (c : goal.After-from) → to_z w64 (of_z w64 c.args.way) ≡ c.args.way
right c = to_z-of_z w64 c.args.way c.ranges.way

pub overflow_mul-result : goal.overflow_mul-result
overflow_mul-result c = rw (left c, right c) (fits c)

pub returns-clause-value : goal.returns-clause-value
returns-clause-value c = rw (left c, right c) (to_z-of_z w64 (pos c.args.count *ℤ c.args.way) (fits c))

pub returns-clause-bound : goal.returns-clause-bound
returns-clause-bound c =
    let most = mul-le c.args.count (unsigned_abs c.args.way) 1000 4000000000 c.requires.count c.requires.way in
    rw (returns-clause-value c, unsigned_abs-mul (pos c.args.count) c.args.way) (omega (arith, most))

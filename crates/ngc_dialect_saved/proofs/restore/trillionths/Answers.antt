use Rattle.std.proofs.Common.{◌≡◌, ◌*◌, ◌*ℤ◌, pos, to_z, of_z, arith, lit<, FitsSigned}
use Rattle.std.specs.Int.{w128}
use Rattle.std.proofs.lemmas.Int.{ints, to_z-of_z, fits_signed_mul}
use Rattle.ngc_dialect_saved.proofs.restore.trillionths.Goals as goal

-- the product fits in 128 bits
fits : (c : goal.After-from-3) → FitsSigned w128 (c.args.times *ℤ pos (c.args.unit * 1000000))
fits c =
    fits_signed_mul w128 c.args.times (pos (c.args.unit * 1000000)) 9223372036854775808 4294967296000000 (omega (arith, ints)) (omega (arith, ints)) (lit< tt)

-- both factors are unchanged in 128 bits
left : (c : goal.After-from-3) → to_z w128 (of_z w128 c.from.result) ≡ c.args.times
left c = omega (arith, ints)

right : (c : goal.After-from-3) → to_z w128 (of_z w128 c.from-3.result) ≡ pos (c.args.unit * 1000000)
right c = omega (arith, ints)

pub overflow_mul-result : goal.overflow_mul-result
overflow_mul-result c = rw (left c, right c) (fits c)

pub returns : goal.returns
returns c = rw (left c, right c) (to_z-of_z w128 (c.args.times *ℤ pos (c.args.unit * 1000000)) (fits c))

use Rattle.std.proofs.Common.{arith, ◌≤◌, ◌*◌, ◌*ℤ◌, ◌≡◌, unsigned_abs, to_z, of_z, lit<, FitsSigned}
use Rattle.std.specs.Int.{w128}
use Rattle.std.proofs.lemmas.Int.{ints, to_z-of_z, fits_signed_mul, unsigned_abs-mul}
use Rattle.std.proofs.lemmas.Nat.{mul-le}
use Rattle.ngc_dialect_arcs.proofs.centre.product.Goals as goal

-- the product fits in 128 bits
fits : (c : goal.After-from) → FitsSigned w128 (c.args.part *ℤ c.args.excess)
fits c = fits_signed_mul w128 c.args.part c.args.excess 100000000000 80000000000000000000000 c.requires.part c.requires.excess (lit< tt)

pub overflow_mul-result : goal.overflow_mul-result
overflow_mul-result c =
    let left : to_z w128 (of_z w128 c.from.result) ≡ c.args.part = omega (arith, ints) in
    let right : to_z w128 (of_z w128 c.args.excess) ≡ c.args.excess = to_z-of_z w128 c.args.excess c.ranges.excess in
    rw (left, right) (fits c)

pub returns-clause-value : goal.returns-clause-value
returns-clause-value c =
    let left : to_z w128 (of_z w128 c.from.result) ≡ c.args.part = omega (arith, ints) in
    let right : to_z w128 (of_z w128 c.args.excess) ≡ c.args.excess = to_z-of_z w128 c.args.excess c.ranges.excess in
    rw (left, right) (to_z-of_z w128 (c.args.part *ℤ c.args.excess) (fits c))

pub returns-clause-bound : goal.returns-clause-bound
returns-clause-bound c =
    let same = returns-clause-value c in
    let size : unsigned_abs c.args.part * unsigned_abs c.args.excess ≤ 100000000000 * 80000000000000000000000 =
    mul-le (unsigned_abs c.args.part) (unsigned_abs c.args.excess) 100000000000 80000000000000000000000 c.requires.part c.requires.excess in
    rw (same, unsigned_abs-mul c.args.part c.args.excess) (omega arith)

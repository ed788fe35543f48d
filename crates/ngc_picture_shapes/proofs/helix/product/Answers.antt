use Rattle.std.proofs.Common.{arith, ◌≤◌, ◌*◌, ◌^◌, ◌*ℤ◌, ◌≡◌, unsigned_abs, to_z, of_z, lit<}
use Rattle.std.specs.Int.{w128}
use Rattle.std.proofs.lemmas.Int.{ints, to_z-of_z, fits_signed_mul, unsigned_abs-mul}
use Rattle.std.proofs.lemmas.Nat.{mul-le}
use Rattle.ngc_picture_shapes.proofs.helix.product.Goals as goal

pub returns-clause-value : goal.returns-clause-value
returns-clause-value c =
    let left : to_z w128 (of_z w128 c.from.result) ≡ c.args.x = omega (arith, ints) in
    let right : to_z w128 (of_z w128 c.from-2.result) ≡ c.args.y = omega (arith, ints) in
    rw (left, right) (to_z-of_z w128 (c.args.x *ℤ c.args.y) (fits_signed_mul w128 c.args.x c.args.y (10 ^ 13) (10 ^ 13) c.requires.x c.requires.y (lit< tt)))

pub returns-clause-bound : goal.returns-clause-bound
returns-clause-bound c =
    let same = returns-clause-value c in
    let size : unsigned_abs c.args.x * unsigned_abs c.args.y ≤ 10 ^ 13 * 10 ^ 13 =
    mul-le (unsigned_abs c.args.x) (unsigned_abs c.args.y) (10 ^ 13) (10 ^ 13) c.requires.x c.requires.y in
    rw (same, unsigned_abs-mul c.args.x c.args.y) (omega arith)

pub overflow_mul-result : goal.overflow_mul-result
overflow_mul-result c =
    let left : to_z w128 (of_z w128 c.from.result) ≡ c.args.x = omega (arith, ints) in
    let right : to_z w128 (of_z w128 c.from-2.result) ≡ c.args.y = omega (arith, ints) in
    rw (left, right) (fits_signed_mul w128 c.args.x c.args.y (10 ^ 13) (10 ^ 13) c.requires.x c.requires.y (lit< tt))

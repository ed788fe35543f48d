use Rattle.std.proofs.Common.{arith, pos, ◌≤◌, ◌*◌, ◌^◌, ◌*ℤ◌, ◌≡◌, unsigned_abs, to_z, of_z, lit<}
use Rattle.std.specs.Int.{w128}
use Rattle.std.proofs.lemmas.Int.{ints, to_z-of_z, fits_signed_mul, unsigned_abs-mul}
use Rattle.std.proofs.lemmas.Nat.{mul-le}
use Rattle.ngc_picture_shapes.proofs.helix.times.Goals as goal

pub returns-clause-value : goal.returns-clause-value
returns-clause-value c =
    let left : to_z w128 (of_z w128 c.from.result) ≡ c.args.coordinate = omega (arith, ints) in
    let right : to_z w128 (of_z w128 c.from-2.result) ≡ pos c.args.radius = omega (arith, ints) in
    rw (left, right) (to_z-of_z w128 (c.args.coordinate *ℤ pos c.args.radius)
    (fits_signed_mul w128 c.args.coordinate (pos c.args.radius) (10 ^ 13) (10 ^ 13) c.requires.coordinate c.requires.radius (lit< tt)))

pub returns-clause-bound : goal.returns-clause-bound
returns-clause-bound c =
    let same = returns-clause-value c in
    let size : unsigned_abs c.args.coordinate * c.args.radius ≤ 10 ^ 13 * 10 ^ 13 =
    mul-le (unsigned_abs c.args.coordinate) c.args.radius (10 ^ 13) (10 ^ 13) c.requires.coordinate c.requires.radius in
    rw (same, unsigned_abs-mul c.args.coordinate (pos c.args.radius)) (omega arith)

pub overflow_mul-result : goal.overflow_mul-result
overflow_mul-result c =
    let left : to_z w128 (of_z w128 c.from.result) ≡ c.args.coordinate = omega (arith, ints) in
    let right : to_z w128 (of_z w128 c.from-2.result) ≡ pos c.args.radius = omega (arith, ints) in
    rw (left, right) (fits_signed_mul w128 c.args.coordinate (pos c.args.radius) (10 ^ 13) (10 ^ 13) c.requires.coordinate c.requires.radius (lit< tt))

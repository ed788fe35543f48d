use Rattle.std.proofs.Common.{◌≡◌, pos, ◌*ℤ◌, to_z, of_z, arith, lit<}
use Rattle.std.specs.Int.{w128}
use Rattle.std.proofs.lemmas.Int.{ints, fits_signed_mul}
use Rattle.ngc_material.proofs.spoke.scaled.Goals as goal

-- the product fits in 128 bits
pub overflow_mul-whole : goal.overflow_mul-whole
overflow_mul-whole c =
    let left : to_z w128 (of_z w128 c.from.result) ≡ c.args.coordinate = omega (arith, ints) in
    let right : to_z w128 (of_z w128 c.from-2.result) ≡ pos c.args.radius = omega (arith, ints) in
    rw (left, right) (fits_signed_mul w128 c.args.coordinate (pos c.args.radius) 9223372036854775808 4294967296 (omega (arith, ints)) (omega (arith, ints)) (lit< tt))

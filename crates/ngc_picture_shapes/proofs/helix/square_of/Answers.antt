use Rattle.std.proofs.Common.{arith, ◌≡◌, ◌+ℤ◌, to_z, of_z}
use Rattle.std.specs.Int.{w64, w128}
use Rattle.std.proofs.lemmas.Int.{ints}
use Rattle.ngc_picture_shapes.proofs.helix.square_of.Goals as goal

pub overflow_add-product : goal.overflow_add-product
overflow_add-product c = omega (arith, ints)

pub returns : goal.returns
returns c =
    let u : to_z w64 (of_z w64 c.args.u) ≡ c.args.u = omega (arith, ints) in
    let v : to_z w64 (of_z w64 c.args.v) ≡ c.args.v = omega (arith, ints) in
    let first = rw u at c.product.ensures.value in
    let second = rw v at c.product-2.ensures.value in
    let sum : to_z w128 (of_z w128 (to_z w128 (of_z w128 c.product.result) +ℤ to_z w128 (of_z w128 c.product-2.result)))
    ≡ c.product.result +ℤ c.product-2.result = omega (arith, ints) in
    rw (sum, first, second) at c.unsigned_abs.ensures.value

use Rattle.std.proofs.Common.{arith, ◌≡◌, to_z, of_z}
use Rattle.std.specs.Int.{w64}
use Rattle.std.proofs.lemmas.Int.{ints}
use Rattle.ngc_picture_shapes.proofs.helix.Heading.cross.Goals as goal

pub returns-clause-value : goal.returns-clause-value
returns-clause-value c =
    let su : to_z w64 (of_z w64 c.args.self.now.u) ≡ c.args.self.now.u = omega (arith, ints) in
    let sv : to_z w64 (of_z w64 c.args.self.now.v) ≡ c.args.self.now.v = omega (arith, ints) in
    let ou : to_z w64 (of_z w64 c.args.other.now.u) ≡ c.args.other.now.u = omega (arith, ints) in
    let ov : to_z w64 (of_z w64 c.args.other.now.v) ≡ c.args.other.now.v = omega (arith, ints) in
    let first = rw (su, ov) at c.product.ensures.value in
    let second = rw (sv, ou) at c.product-2.ensures.value in
    omega (arith, ints, first, second)

pub overflow_sub-result : goal.overflow_sub-result
overflow_sub-result c = omega (arith, ints)

pub returns-clause-bound : goal.returns-clause-bound
returns-clause-bound c = omega (arith, ints)

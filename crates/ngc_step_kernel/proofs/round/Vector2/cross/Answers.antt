use Rattle.std.proofs.Common.{arith, ◌≡◌, to_z, of_z}
use Rattle.std.specs.Int.{w64}
use Rattle.std.proofs.lemmas.Int.{ints}
use Rattle.ngc_step_kernel.proofs.round.Vector2.cross.Goals as goal

pub returns : goal.returns
returns c =
    let r = c.requires in
    let su : to_z w64 (of_z w64 c.args.self.now.u) ≡ c.args.self.now.u = omega (arith, ints, r.here.u) in
    let sv : to_z w64 (of_z w64 c.args.self.now.v) ≡ c.args.self.now.v = omega (arith, ints, r.here.v) in
    let ou : to_z w64 (of_z w64 c.args.other.now.u) ≡ c.args.other.now.u = omega (arith, ints, r.other.u) in
    let ov : to_z w64 (of_z w64 c.args.other.now.v) ≡ c.args.other.now.v = omega (arith, ints, r.other.v) in
    let first = rw (su, ov) at c.product.ensures.value in
    let second = rw (sv, ou) at c.product-2.ensures.value in
    omega (arith, ints, first, second)

pub overflow_sub-result : goal.overflow_sub-result
overflow_sub-result c = omega (arith, ints)

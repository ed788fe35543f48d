use Rattle.std.proofs.Common.{arith, ◌≡◌, to_z, of_z}
use Rattle.std.specs.Int.{w64}
use Rattle.std.proofs.lemmas.Int.{ints}
use Rattle.ngc_material.proofs.spoke.Spoke.cross.Goals as goal

pub overflow_sub-result : goal.overflow_sub-result
overflow_sub-result c = omega (arith, ints, c.product.ensures.bound, c.product-2.ensures.bound)

pub returns-clause-value : goal.returns-clause-value
returns-clause-value c =
    let su : to_z w64 (of_z w64 c.self.inside.u) ≡ c.self.inside.u = omega (arith, ints, c.self.invariant.0) in
    let sv : to_z w64 (of_z w64 c.self.inside.v) ≡ c.self.inside.v = omega (arith, ints, c.self.invariant.1) in
    let ou : to_z w64 (of_z w64 c.other.inside.u) ≡ c.other.inside.u = omega (arith, ints, c.other.invariant.0) in
    let ov : to_z w64 (of_z w64 c.other.inside.v) ≡ c.other.inside.v = omega (arith, ints, c.other.invariant.1) in
    let first = rw (su, ov) at c.product.ensures.value in
    let second = rw (sv, ou) at c.product-2.ensures.value in
    rw (← c.self.view_is, ← c.other.view_is) (omega (arith, ints, first, second, c.product.ensures.bound, c.product-2.ensures.bound))

pub returns-clause-bound : goal.returns-clause-bound
returns-clause-bound c = omega (arith, ints, c.product.ensures.bound, c.product-2.ensures.bound)

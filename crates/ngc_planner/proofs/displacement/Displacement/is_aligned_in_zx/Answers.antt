use Rattle.ngc_planner.proofs.CoordinateLaws.{kept, same_bits}
use Rattle.ngc_planner.proofs.displacement.Displacement.is_aligned_in_zx.Goals as goal

pub returns : goal.returns
returns c =
    let s = c.self.inside in
    let o = c.other.inside in
    let first = rw (kept s.z c.self.invariant.2, kept o.x c.other.invariant.0) at c.product.ensures.value in
    let second = rw (kept s.x c.self.invariant.0, kept o.z c.other.invariant.2) at c.product-2.ensures.value in
    let tested = same_bits c.product.result c.product-2.result c.product.ensures.bound c.product-2.ensures.bound in
    rw (← c.self.view_is, ← c.other.view_is, tested, first, second)

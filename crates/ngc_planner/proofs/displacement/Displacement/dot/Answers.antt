use Rattle.std.proofs.Common.{arith}
use Rattle.std.proofs.lemmas.Int.{ints}
use Rattle.ngc_planner.proofs.CoordinateLaws.{kept, kept_sum}
use Rattle.ngc_planner.proofs.displacement.Displacement.dot.Goals as goal

pub overflow_add-result : goal.overflow_add-result
overflow_add-result c = omega (arith, ints)

pub overflow_add-result-2 : goal.overflow_add-result-2
overflow_add-result-2 c = omega (arith, ints)

pub returns : goal.returns
returns c =
    let s = c.self.inside in
    let o = c.other.inside in
    let xs = rw (kept s.x c.self.invariant.0, kept o.x c.other.invariant.0) at c.product.ensures.value in
    let ys = rw (kept s.y c.self.invariant.1, kept o.y c.other.invariant.1) at c.product-2.ensures.value in
    let zs = rw (kept s.z c.self.invariant.2, kept o.z c.other.invariant.2) at c.product-3.ensures.value in
    let sum = kept_sum c.product.result c.product-2.result c.product-3.result c.product.ensures.bound c.product-2.ensures.bound c.product-3.ensures.bound in
    rw (← c.self.view_is, ← c.other.view_is, sum, xs, ys, zs)

pub product-requires-clause-a : goal.product-requires-clause-a
product-requires-clause-a c = rw (kept c.self.inside.x c.self.invariant.0) c.self.invariant.0

pub product-requires-clause-b : goal.product-requires-clause-b
product-requires-clause-b c = rw (kept c.other.inside.x c.other.invariant.0) c.other.invariant.0

pub product-requires-2-clause-a : goal.product-requires-2-clause-a
product-requires-2-clause-a c = rw (kept c.self.inside.y c.self.invariant.1) c.self.invariant.1

pub product-requires-2-clause-b : goal.product-requires-2-clause-b
product-requires-2-clause-b c = rw (kept c.other.inside.y c.other.invariant.1) c.other.invariant.1

pub product-requires-3-clause-a : goal.product-requires-3-clause-a
product-requires-3-clause-a c = rw (kept c.self.inside.z c.self.invariant.2) c.self.invariant.2

pub product-requires-3-clause-b : goal.product-requires-3-clause-b
product-requires-3-clause-b c = rw (kept c.other.inside.z c.other.invariant.2) c.other.invariant.2

use Rattle.std.proofs.Common.{arith, ℤ, ◌+ℤ◌, ◌∙◌, ap₂}
use Rattle.std.proofs.lemmas.Int.{ints}
use Rattle.ngc_cells.proofs.Kept.{less64, plus128}
use Rattle.ngc_material.proofs.spoke.Spoke.squared_distance.Goals as goal

pub overflow_add-result : goal.overflow_add-result
overflow_add-result c = omega (arith, ints, c.squared.ensures.bound, c.squared-2.ensures.bound)

pub returns-clause-value : goal.returns-clause-value
returns-clause-value c =
    let a = less64 c.other.inside.u c.self.inside.u (omega (arith, c.other.invariant.0)) (omega (arith, c.self.invariant.0)) in
    let b = less64 c.other.inside.v c.self.inside.v (omega (arith, c.other.invariant.1)) (omega (arith, c.self.invariant.1)) in
    let first = rw a at c.squared.ensures.value in
    let second = rw b at c.squared-2.ensures.value in
    rw (← c.self.view_is, ← c.other.view_is)
    (plus128 c.squared.result c.squared-2.result (omega (arith, c.squared.ensures.bound)) (omega (arith, c.squared-2.ensures.bound)) ∙ ap₂ (λ (x y : ℤ). x +ℤ y) first second)

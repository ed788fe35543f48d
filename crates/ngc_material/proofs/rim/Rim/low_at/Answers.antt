use Rattle.std.proofs.Common.{ℤ, ◌+ℤ◌, ◌∙◌, ap, ap₂, arith}
use Rattle.ngc_fixed_length.specs.declared.points.Point2.{Point2}
use Rattle.ngc_cells.proofs.Kept.{plus64}
use Rattle.ngc_material.proofs.Rims.{same_low}
use Rattle.ngc_material.proofs.rim.Rim.low_at.Goals as goal

pub returns-then-is_reached-clause-place : goal.returns-then-is_reached-clause-place
returns-then-is_reached-clause-place c =
    let u = c.nanometres.ensures.value ∙ ap (λ (p : Point2). p.u) c.centre-centre.ensures.value in
    let v = c.nanometres-2.ensures.value ∙ ap (λ (p : Point2). p.v) c.centre-centre.ensures.value in
    same_low c.args.self.now.arc c.args.spoke.now _ _ _
    (c.in_ok-length.ensures ∙ plus64 c.nanometres.result c.x.result (omega (arith, c.nanometres.ensures.bound)) (omega (arith, c.x.ensures.bound)) ∙ ap₂ (λ (x y : ℤ). x +ℤ y) u c.x.ensures.value)
    (c.in_ok-length-2.ensures ∙ plus64 c.nanometres-2.result c.y.result (omega (arith, c.nanometres-2.ensures.bound)) (omega (arith, c.y.ensures.bound)) ∙ ap₂ (λ (x y : ℤ). x +ℤ y) v c.y.ensures.value)
    c.lower_end.ensures

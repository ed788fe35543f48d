use Rattle.std.proofs.Common.{ℤ, ◌+ℤ◌, ◌∙◌, ap, ap₂, arith}
use Rattle.ngc_fixed_length.specs.declared.points.Point2.{Point2}
use Rattle.ngc_cells.proofs.Kept.{plus64}
use Rattle.ngc_material.proofs.Sweeps.{same_chord}
use Rattle.ngc_material.proofs.sweep.Sweep.chord.Goals as goal

pub returns : goal.returns
returns c =
    let u = c.nanometres-u.ensures.value ∙ ap (λ (p : Point2). p.u) c.centre-centre.ensures.value in
    let v = c.nanometres-v.ensures.value ∙ ap (λ (p : Point2). p.v) c.centre-centre.ensures.value in
    same_chord c.args.self.now.arc c.args.first.now c.args.last.now _ _ _ _
    (plus64 c.nanometres-u.result c.x.result (omega (arith, c.nanometres-u.ensures.bound)) (omega (arith, c.x.ensures.bound)) ∙ ap₂ (λ (x y : ℤ). x +ℤ y) u c.x.ensures.value)
    (plus64 c.nanometres-v.result c.y.result (omega (arith, c.nanometres-v.ensures.bound)) (omega (arith, c.y.ensures.bound)) ∙ ap₂ (λ (x y : ℤ). x +ℤ y) v c.y.ensures.value)
    (plus64 c.nanometres-u.result c.x-2.result (omega (arith, c.nanometres-u.ensures.bound)) (omega (arith, c.x-2.ensures.bound)) ∙ ap₂ (λ (x y : ℤ). x +ℤ y) u c.x-2.ensures.value)
    (plus64 c.nanometres-v.result c.y-2.result (omega (arith, c.nanometres-v.ensures.bound)) (omega (arith, c.y-2.ensures.bound)) ∙ ap₂ (λ (x y : ℤ). x +ℤ y) v c.y-2.ensures.value)

use Rattle.std.proofs.Common.{◌≤◌, ℤ, ◌+ℤ◌, unsigned_abs, ◌∙◌, ap, ap₂, arith}
use Rattle.std.specs.Int.{int_max}
use Rattle.std.proofs.lemmas.Int.{ints, clamps}
use Rattle.ngc_fixed_length.specs.declared.points.Point3.{Point3}
use Rattle.ngc_cells.proofs.Kept.{kept64, plus64}
use Rattle.ngc_material.proofs.sweep.upper_tip.Goals as goal

pub returns : goal.returns
returns c =
    let t = kept64 c.nanometres-first.result (omega (arith, c.nanometres-first.ensures.bound)) in
    let u = kept64 c.nanometres-last.result (omega (arith, c.nanometres-last.ensures.bound)) in
    let m = rw (t, u) at c.max-highest.ensures.value in
    let ms : unsigned_abs c.max-highest.result ≤ 100000000000 = rw m (omega (arith, ints, clamps, c.nanometres-first.ensures.bound, c.nanometres-last.ensures.bound)) in
    let first = c.nanometres-first.ensures.value ∙ ap (λ (p : Point3). p.z) c.start.ensures.value in
    let last = c.nanometres-last.ensures.value ∙ ap (λ (p : Point3). p.z) c.end.ensures.value in
    plus64 c.max-highest.result c.nanometres.result (omega (arith, ms)) (omega (arith, c.nanometres.ensures.bound))
    ∙ ap₂ (λ (x y : ℤ). x +ℤ y) (m ∙ ap₂ int_max first last) c.nanometres.ensures.value

use Rattle.std.proofs.Common.{◌≡◌, to_z, of_z, arith, ap₂, sym, ◌∙◌, true}
use Rattle.std.specs.Int.{w32, int_max}
use Rattle.std.proofs.lemmas.Int.{ints}
use Rattle.ngc_fixed_length.specs.Grid.{grid}
use Rattle.ngc_place.specs.Shifts.{shifted}
use Rattle.ngc_place.specs.Inside.{step_height}
use Rattle.ngc_place.proofs.ArcShifts.{grid_same, high_is}
use Rattle.ngc_place.proofs.round.high_moved.Goals as goal

pub returns : goal.returns
returns c =
    let step = c.args.step in
    let by = c.args.by.now in
    let kept_u : to_z w32 (of_z w32 c.last_along-u.result) ≡ c.last_along-u.result = omega (arith, ints) in
    let kept_v : to_z w32 (of_z w32 c.last_along-v.result) ≡ c.last_along-v.result = omega (arith, ints) in
    let kept_w : to_z w32 (of_z w32 c.max.result) ≡ c.max.result = omega (arith, ints) in
    let kept_start : to_z w32 (of_z w32 c.shifted_height-start.result) ≡ c.shifted_height-start.result = omega (arith, ints) in
    let kept_end : to_z w32 (of_z w32 c.shifted_height-end.result) ≡ c.shifted_height-end.result = omega (arith, ints) in
    let start = c.shifted_height-start.ensures ∙ ap₂ (λ p x. step_height p (grid step (shifted step by true x))) c.plane.ensures c.start.ensures.value in
    let end = c.shifted_height-end.ensures ∙ ap₂ (λ p x. step_height p (grid step (shifted step by true x))) c.plane-2.ensures c.end.ensures.value in
    let w = kept_w ∙ c.max.ensures.value ∙ ap₂ int_max (kept_start ∙ start) (kept_end ∙ end) in
    c.grid_at.ensures ∙ grid_same _ _ _ _ _ _ _ _ c.plane-3.ensures (kept_u ∙ c.last_along-u.ensures) (kept_v ∙ c.last_along-v.ensures) w
    ∙ sym (high_is step by c.args.arc.now)

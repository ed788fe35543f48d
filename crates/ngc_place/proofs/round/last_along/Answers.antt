use Rattle.std.proofs.Common.{◌≡◌, ◌+ℤ◌, ◌*ℤ◌, to_z, of_z, arith, ap, ap₂, sym, ◌∙◌}
use Rattle.std.specs.Int.{w32, w64}
use Rattle.std.proofs.lemmas.Int.{ints}
use Rattle.ngc_fixed_length.specs.Boxes.{grid_below}
use Rattle.ngc_place.specs.Inside.{steps_along}
use Rattle.ngc_place.proofs.ArcShifts.{last_is}
use Rattle.ngc_place.proofs.round.last_along.Goals as goal

pub returns : goal.returns
returns c =
    let axis = c.args.axis in
    let step = c.args.step in
    let by = c.args.by.now in
    let arc = c.args.arc.now in
    let kept : to_z w32 (of_z w32 c.last_within.result) ≡ c.last_within.result = omega (arith, ints) in
    let kept_sum : to_z w64 (of_z w64 c.plus_steps-greatest.result) ≡ c.plus_steps-greatest.result = omega (arith, ints) in
    let kept_margin : to_z w64 (of_z w64 c.args.reach.now.margin) ≡ c.args.reach.now.margin = omega (arith, ints, c.requires.reach.margin_size) in
    let kept_greatest : to_z w64 (of_z w64 c.greatest.result) ≡ c.greatest.result = omega (arith, ints) in
    let kept_steps : to_z w32 (of_z w32 c.steps.result) ≡ c.steps.result = omega (arith, ints) in
    let steps = c.steps.ensures.value ∙ ap (λ p. steps_along p axis by) c.plane.ensures in
    let greatest = c.plus_steps-greatest.ensures.value ∙ ap₂ (λ x n. x +ℤ (n *ℤ step)) (kept_greatest ∙ c.greatest.ensures ∙ c.requires.reach.greatest axis) (kept_steps ∙ steps) in
    kept ∙ c.last_within.ensures
    ∙ ap₂ (λ x m. grid_below step (x +ℤ m)) (kept_sum ∙ greatest) (kept_margin ∙ c.requires.reach.margin)
    ∙ sym (last_is step by axis arc)

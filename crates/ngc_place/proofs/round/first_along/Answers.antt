use Rattle.std.proofs.Common.{◌≡◌, ◌+ℤ◌, ◌-ℤ◌, ◌*ℤ◌, to_z, of_z, arith, ap, ap₂, sym, ◌∙◌}
use Rattle.std.specs.Int.{w32, w64}
use Rattle.std.proofs.lemmas.Int.{ints}
use Rattle.ngc_fixed_length.specs.Boxes.{grid_above}
use Rattle.ngc_place.specs.Inside.{steps_along}
use Rattle.ngc_place.proofs.ArcShifts.{first_is}
use Rattle.ngc_place.proofs.round.first_along.Goals as goal

pub returns : goal.returns
returns c =
    let axis = c.args.axis in
    let step = c.args.step in
    let by = c.args.by.now in
    let arc = c.args.arc.now in
    let kept : to_z w32 (of_z w32 c.first_within.result) ≡ c.first_within.result = omega (arith, ints) in
    let kept_sum : to_z w64 (of_z w64 c.plus_steps-least.result) ≡ c.plus_steps-least.result = omega (arith, ints) in
    let kept_margin : to_z w64 (of_z w64 c.args.reach.now.margin) ≡ c.args.reach.now.margin = omega (arith, ints, c.requires.reach.margin_size) in
    let kept_least : to_z w64 (of_z w64 c.least.result) ≡ c.least.result = omega (arith, ints) in
    let kept_steps : to_z w32 (of_z w32 c.steps.result) ≡ c.steps.result = omega (arith, ints) in
    let steps = c.steps.ensures.value ∙ ap (λ p. steps_along p axis by) c.plane.ensures in
    let least = c.plus_steps-least.ensures.value ∙ ap₂ (λ x n. x +ℤ (n *ℤ step)) (kept_least ∙ c.least.ensures ∙ c.requires.reach.least axis) (kept_steps ∙ steps) in
    kept ∙ c.first_within.ensures
    ∙ ap₂ (λ x m. grid_above step (x -ℤ m)) (kept_sum ∙ least) (kept_margin ∙ c.requires.reach.margin)
    ∙ sym (first_is step by axis arc)

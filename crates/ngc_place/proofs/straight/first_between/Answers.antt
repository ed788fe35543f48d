use Rattle.std.proofs.Common.{◌≡◌, to_z, of_z, arith, ◌∙◌}
use Rattle.std.specs.Int.{w32, w64}
use Rattle.std.proofs.lemmas.Int.{ints}
use Rattle.ngc_place.proofs.Quotients.{difference_kept}
use Rattle.ngc_place.proofs.straight.first_between.Goals as goal

pub returns : goal.returns
returns c =
    let start : to_z w64 (of_z w64 c.args.start) ≡ c.args.start = omega (arith, ints) in
    let end : to_z w64 (of_z w64 c.args.end) ≡ c.args.end = omega (arith, ints) in
    let step : to_z w64 (of_z w64 c.step_in_parts-step.result) ≡ c.step_in_parts-step.result = omega (arith, ints) in
    let cut = rw (start, end) at c.lesser_cut.ensures.value in
    let less = difference_kept c.lesser_cut.result c.step_in_parts-step.result (omega arith) (omega (arith, ints)) in
    let value = rw (less, step, c.step_in_parts-step.ensures.value, cut) at c.first_grid_point.ensures in
    let same : to_z w32 (of_z w32 c.first_grid_point.result) ≡ c.first_grid_point.result = omega (arith, ints) in
    same ∙ value

use Rattle.std.proofs.Common.{◌≡◌, to_z, of_z, arith, refl}
use Rattle.std.specs.Int.{w64, w128}
use Rattle.std.proofs.lemmas.Int.{ints}
use Rattle.ngc_certificate.proofs.WideSums.{difference_kept}
use Rattle.ngc_certificate.proofs.cuts.first_between.Goals as goal

pub returns-clause-value : goal.returns-clause-value
returns-clause-value c =
    let step : to_z w128 (of_z w128 c.in_parts-step.result) ≡ c.in_parts-step.result = omega (arith, ints) in
    let less = difference_kept c.lesser_cut.result c.in_parts-step.result (omega arith) (omega arith) in
    let value = rw (less, step, c.in_parts-step.ensures.value, c.lesser_cut.ensures.value) at c.first_grid_point.ensures.value in
    let same : to_z w64 (of_z w64 c.first_grid_point.result) ≡ c.first_grid_point.result = omega (arith, ints) in
    rw (same, value) refl

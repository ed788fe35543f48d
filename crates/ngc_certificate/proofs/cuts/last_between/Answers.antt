use Rattle.std.proofs.Common.{◌≡◌, to_z, of_z, arith, refl}
use Rattle.std.specs.Int.{w64, w128}
use Rattle.std.proofs.lemmas.Int.{ints}
use Rattle.ngc_certificate.proofs.WideSums.{sum_kept}
use Rattle.ngc_certificate.proofs.cuts.last_between.Goals as goal

pub returns-clause-value : goal.returns-clause-value
returns-clause-value c =
    let step : to_z w128 (of_z w128 c.in_parts-step.result) ≡ c.in_parts-step.result = omega (arith, ints) in
    let more = sum_kept c.greater_cut.result c.in_parts-step.result (omega arith) (omega arith) in
    let value = rw (more, step, c.in_parts-step.ensures.value, c.greater_cut.ensures.value) at c.last_grid_point.ensures.value in
    let same : to_z w64 (of_z w64 c.last_grid_point.result) ≡ c.last_grid_point.result = omega (arith, ints) in
    rw (same, value) refl

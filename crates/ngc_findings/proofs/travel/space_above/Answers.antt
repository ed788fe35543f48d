use Rattle.std.proofs.Common.{arith, ◌*ℤ◌, w32, ap, ◌∙◌}
use Rattle.std.proofs.lemmas.Int.{to_z-of_z}
use Rattle.ngc_findings.proofs.DifferenceRange.{apart-fits, apart-is}
use Rattle.ngc_findings.proofs.travel.space_above.Goals as goal

pub overflow_sub-result : goal.overflow_sub-result
overflow_sub-result c =
    apart-fits c.nanometres.result c.nanometres_at.result (omega (arith, c.nanometres.ensures.bound)) c.nanometres_at.ensures.bound

pub returns : goal.returns
returns c =
    let high = c.nanometres_at.ensures.value ∙ ap (λ z. z *ℤ c.args.step) (to_z-of_z w32 c.args.high c.ranges.high) in
    apart-is c.nanometres.result c.nanometres_at.result _ _ (omega (arith, c.nanometres.ensures.bound)) c.nanometres_at.ensures.bound
    c.nanometres.ensures.value high

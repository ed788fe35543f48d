use Rattle.std.proofs.Common.{arith, ◌*ℤ◌, w32, ap, ◌∙◌}
use Rattle.std.proofs.lemmas.Int.{to_z-of_z}
use Rattle.ngc_findings.proofs.DifferenceRange.{apart-fits, apart-is}
use Rattle.ngc_findings.proofs.travel.space_below.Goals as goal

pub overflow_sub-result : goal.overflow_sub-result
overflow_sub-result c =
    apart-fits c.nanometres_at.result c.nanometres.result c.nanometres_at.ensures.bound (omega (arith, c.nanometres.ensures.bound))

pub returns : goal.returns
returns c =
    let low = c.nanometres_at.ensures.value ∙ ap (λ z. z *ℤ c.args.step) (to_z-of_z w32 c.args.low c.ranges.low) in
    apart-is c.nanometres_at.result c.nanometres.result _ _ c.nanometres_at.ensures.bound (omega (arith, c.nanometres.ensures.bound)) low
    c.nanometres.ensures.value

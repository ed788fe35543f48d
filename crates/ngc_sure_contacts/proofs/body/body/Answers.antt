use Rattle.std.proofs.Common.{◌∙◌, ap, arith, unsigned_abs}
use Rattle.ngc_cells.proofs.Kept.{kept64}
use Rattle.ngc_sure_contacts.proofs.Bodies.{next_part}
use Rattle.ngc_sure_contacts.proofs.body.body.Goals as goal

pub loop-part-preserved : goal.loop-part-preserved
loop-part-preserved g c =
    let radius = kept64 c.nanometres.result (omega (arith, c.nanometres.ensures.bound)) ∙ c.nanometres.ensures.value in
    let length = kept64 c.nanometres-in-loop-part.result (omega (arith, c.nanometres-in-loop-part.ensures.bound)) ∙ c.nanometres-in-loop-part.ensures.value in
    next_part c.as_slice-parts.result.now c.loop-part.part-index c.part-item.result c.loop-part.foot c.foot_over-foot.result
    c.unsigned_abs.result c.unsigned_abs-in-loop-part.result c.loop-part.cylinders.items c.push.new.self.items _
    c.loop-part-test.true c.part-item.is (c.unsigned_abs.ensures.value ∙ ap unsigned_abs radius) (c.unsigned_abs-in-loop-part.ensures.value ∙ ap unsigned_abs length)
    c.foot_over-foot.ensures c.in_ok-push.ensures.items c.loop-part.invariant

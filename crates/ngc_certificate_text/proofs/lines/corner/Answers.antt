use Rattle.std.proofs.Common.{◌≡◌, true}
use Rattle.ngc_certificate_text.proofs.StepLemmas.{held_step, held_corner, is_step_held}
use Rattle.ngc_certificate_text.specs.Lines.{is_step}
use Rattle.ngc_certificate_text.proofs.lines.corner.Goals as goal

pub returns-then-is_step-3 : goal.returns-then-is_step-3
returns-then-is_step-3 c =
    let hx : is_step c.args.x ≡ true = is_step_held c.args.x c.is_step.result c.ranges.x c.is_step.ensures c.if-is_step.true in
    let hy : is_step c.args.y ≡ true = is_step_held c.args.y c.is_step-then-is_step.result c.ranges.y c.is_step-then-is_step.ensures c.if-is_step-2.true in
    let hz : is_step c.args.z ≡ true = is_step_held c.args.z c.is_step-then-is_step-2.result c.ranges.z c.is_step-then-is_step-2.ensures c.if-is_step-3.true in
    held_corner c.args.x c.args.y c.args.z _ _ _ (held_step c.args.x c.ranges.x hx) (held_step c.args.y c.ranges.y hy)
    (held_step c.args.z c.ranges.z hz) hx hy hz

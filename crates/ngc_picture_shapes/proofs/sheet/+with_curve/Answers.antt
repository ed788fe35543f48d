use Rattle.std.proofs.Common.{◌∙◌, ap, ◌-◌}
use Rattle.ngc_picture_shapes.proofs.CurveRectangles.{held, held_halved}
use Rattle.ngc_picture_shapes.proofs.sheet.+with_curve.Goals as goal

pub returns : goal.returns
returns t c =
    let eye = c.args.eye.now in
    let arc = c.args.arc.now in
    let n = c.args.halvings in
    let m = c.halfway_along-between.result in
    c.with_curve.ensures
    ∙ ap (λ r. held eye r (n - 1) arc m c.args.to.now) c.with_curve-half.ensures
    ∙ held_halved eye c.args.area n arc c.args.from.now m c.args.to.now c.if-halvings-eq0.false c.halfway_along-between.ensures

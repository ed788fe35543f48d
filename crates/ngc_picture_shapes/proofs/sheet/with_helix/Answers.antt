use Rattle.std.proofs.Common.{◌∙◌, ap}
use Rattle.ngc_picture_shapes.specs.Helices as helices
use Rattle.ngc_picture_shapes.proofs.CurveRectangles.{held, held_both}
use Rattle.ngc_picture_shapes.proofs.sheet.with_helix.Goals as goal

pub returns : goal.returns
returns c =
    let eye = c.args.eye.now in
    let arc = c.args.arc.now in
    let n = c.halvings-halvings.result in
    let m = c.middle-middle.result in
    c.with_curve.ensures
    ∙ ap (λ r. held eye r n arc m c.end.result) c.with_curve-half.ensures
    ∙ held_both eye c.args.area arc n c.start.result m c.end.result (c.halvings-halvings.ensures ∙ ap helices.halvings c.outer_radius.ensures.value)
    c.start.ensures.value c.middle-middle.ensures c.end.ensures.value

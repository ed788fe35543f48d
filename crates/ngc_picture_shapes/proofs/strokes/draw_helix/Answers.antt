use Rattle.ngc_picture_shapes.proofs.ShapeProgress.{both, cut_short}
use Rattle.ngc_picture_shapes.proofs.Curves.{lines, both_halves}
use Rattle.ngc_picture_shapes.specs.Helices.{helix_points}
use Rattle.ngc_picture_shapes.specs.Strokes.{line_to}
use Rattle.std.proofs.Common.{map, ◌∙◌, ap, refl}
use Rattle.ngc_picture_shapes.specs.Helices as helices
use Rattle.ngc_picture_shapes.proofs.strokes.draw_helix.Goals as goal

pub returns-in-Err-clause-drawn : goal.returns-in-Err-clause-drawn
returns-in-Err-clause-drawn g c =
    let eye = c.args.eye.now in
    let arc = c.args.arc.now in
    let n = c.halvings-halvings.result in
    let s = c.start.result in
    let m = c.middle-middle.result in
    cut_short c.args.unit.now.micrometres (g.W.Sink.written c.args.sink.now) (g.W.Sink.written c.draw_curve.new.sink) c.args.chunk.now
    (lines eye n arc s m) (lines eye n arc m arc.end) (map (line_to eye) (helix_points arc))
    (both_halves eye arc n s m arc.end (c.halvings-halvings.ensures ∙ ap helices.halvings c.outer_radius.ensures.value) c.start.ensures.value
    c.middle-middle.ensures refl) c.in-Err.ensures.drawn

pub returns-clause-drawn : goal.returns-clause-drawn
returns-clause-drawn g c =
    let eye = c.args.eye.now in
    let arc = c.args.arc.now in
    let n = c.halvings-halvings.result in
    let s = c.start.result in
    let m = c.middle-middle.result in
    let e = c.end.result in
    both c.draw_curve-2.result c.args.unit.now.micrometres (g.W.Sink.written c.args.sink.now) (g.W.Sink.written c.draw_curve.new.sink)
    (g.W.Sink.written c.draw_curve-2.new.sink) c.args.chunk.now c.draw_curve.new.chunk c.draw_curve-2.new.chunk
    (lines eye n arc s m) (lines eye n arc m e) (map (line_to eye) (helix_points arc))
    (both_halves eye arc n s m e (c.halvings-halvings.ensures ∙ ap helices.halvings c.outer_radius.ensures.value) c.start.ensures.value c.middle-middle.ensures
    c.end.ensures.value) c.in-Ok.ensures.drawn c.draw_curve-2.ensures.drawn

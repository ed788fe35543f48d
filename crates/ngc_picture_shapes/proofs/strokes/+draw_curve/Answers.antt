use Rattle.std.proofs.Common.{◌-◌}
use Rattle.ngc_picture_shapes.proofs.ShapeProgress.{both, cut_short}
use Rattle.ngc_picture_shapes.proofs.Curves.{lines, halved}
use Rattle.ngc_picture_shapes.proofs.strokes.+draw_curve.Goals as goal

pub returns-in-Err-clause-drawn : goal.returns-in-Err-clause-drawn
returns-in-Err-clause-drawn g t c =
    let eye = c.args.eye.now in
    let arc = c.args.arc.now in
    let n = c.args.halvings in
    let m = c.halfway_along-between.result in
    cut_short c.args.unit.now.micrometres (g.W.Sink.written c.args.sink.now) (g.W.Sink.written c.draw_curve.new.sink) c.args.chunk.now
    (lines eye (n - 1) arc c.args.from.now m) (lines eye (n - 1) arc m c.args.to.now) (lines eye n arc c.args.from.now c.args.to.now)
    (halved eye n arc c.args.from.now m c.args.to.now c.if-halvings-eq0.false c.halfway_along-between.ensures) c.in-Err.ensures.drawn

pub returns-clause-drawn : goal.returns-clause-drawn
returns-clause-drawn g t c =
    let eye = c.args.eye.now in
    let arc = c.args.arc.now in
    let n = c.args.halvings in
    let m = c.halfway_along-between.result in
    both c.draw_curve-2.result c.args.unit.now.micrometres (g.W.Sink.written c.args.sink.now) (g.W.Sink.written c.draw_curve.new.sink)
    (g.W.Sink.written c.draw_curve-2.new.sink) c.args.chunk.now c.draw_curve.new.chunk c.draw_curve-2.new.chunk
    (lines eye (n - 1) arc c.args.from.now m) (lines eye (n - 1) arc m c.args.to.now) (lines eye n arc c.args.from.now c.args.to.now)
    (halved eye n arc c.args.from.now m c.args.to.now c.if-halvings-eq0.false c.halfway_along-between.ensures) c.in-Ok.ensures.drawn c.draw_curve-2.ensures.drawn

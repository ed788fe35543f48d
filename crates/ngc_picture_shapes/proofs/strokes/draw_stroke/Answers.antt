use Rattle.std.proofs.Common.{refl}
use Rattle.ngc_commands.specs.Movement.{start_of}
use Rattle.ngc_picture_shapes.proofs.ShapeProgress.{both, cut_short}
use Rattle.ngc_picture_shapes.specs.Strokes.{lead, course, stroke}
use Rattle.ngc_picture_shapes.specs.Views.{tip_spot}
use Rattle.ngc_picture_shapes.proofs.strokes.draw_stroke.Goals as goal

pub returns-in-Err-clause-drawn : goal.returns-in-Err-clause-drawn
returns-in-Err-clause-drawn g c =
    let eye = c.args.eye.now in
    let way = c.args.way.now in
    cut_short c.args.unit.now.micrometres (g.W.Sink.written c.args.sink.now) (g.W.Sink.written c.draw_all.new.sink) c.args.chunk.now
    (lead c.args.run.now c.args.ink (tip_spot eye (start_of way))) (course eye way) (stroke eye c.args.run.now c.args.ink way) refl
    (rw (c.as_slice.ensures.value, c.lead-lead.ensures, c.spot.ensures, c.start_of.ensures) at c.in-Err.ensures.drawn)

pub returns-clause-drawn : goal.returns-clause-drawn
returns-clause-drawn g c =
    let eye = c.args.eye.now in
    let way = c.args.way.now in
    both c.draw_course.result c.args.unit.now.micrometres (g.W.Sink.written c.args.sink.now) (g.W.Sink.written c.draw_all.new.sink)
    (g.W.Sink.written c.draw_course.new.sink) c.args.chunk.now c.draw_all.new.chunk c.draw_course.new.chunk
    (lead c.args.run.now c.args.ink (tip_spot eye (start_of way))) (course eye way) (stroke eye c.args.run.now c.args.ink way) refl
    (rw (c.as_slice.ensures.value, c.lead-lead.ensures, c.spot.ensures, c.start_of.ensures) at c.in-Ok.ensures.drawn) c.draw_course.ensures.drawn

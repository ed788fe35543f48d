use Rattle.std.proofs.Common.{[], ◌∷◌, None, List, refl}
use Rattle.ngc_commands.specs.Movement.{end_of}
use Rattle.ngc_picture_shapes.proofs.ShapeProgress.{both, cut_short}
use Rattle.ngc_drawing.specs.Pictures.{refused_way}
use Rattle.ngc_picture_shapes.specs.Strokes.{stroke}
use Rattle.ngc_picture_shapes.specs.Views.{tip_spot}
use Rattle.ngc_picture_shapes.specs.declared.shape.Ink.TheVariants as inks
use Rattle.ngc_picture_shapes.specs.declared.shape.Shape.{Shape}
use Rattle.ngc_picture_shapes.specs.declared.shape.Shape.TheVariants as shapes
use Rattle.ngc_drawing.proofs.picture.draw_refused_way.Goals as goal

pub returns-in-Err-clause-drawn : goal.returns-in-Err-clause-drawn
returns-in-Err-clause-drawn g c =
    let eye = c.args.eye.now in
    let way = c.args.way.now in
    let end : List Shape = shapes.PathEnd ∷ shapes.FaultNumber (tip_spot eye (end_of way)) c.args.fault ∷ [] in
    cut_short c.args.unit.now.micrometres (g.W.Sink.written c.args.sink.now) (g.W.Sink.written c.draw_stroke.new.sink) c.args.chunk.now
    (stroke eye None inks.Fault way) end (refused_way eye c.args.fault way) refl c.in-Err.ensures.drawn

pub returns-clause-drawn : goal.returns-clause-drawn
returns-clause-drawn g c =
    let eye = c.args.eye.now in
    let way = c.args.way.now in
    let end : List Shape = shapes.PathEnd ∷ shapes.FaultNumber (tip_spot eye (end_of way)) c.args.fault ∷ [] in
    both c.draw_all.result c.args.unit.now.micrometres (g.W.Sink.written c.args.sink.now) (g.W.Sink.written c.draw_stroke.new.sink)
    (g.W.Sink.written c.draw_all.new.sink) c.args.chunk.now c.draw_stroke.new.chunk c.draw_all.new.chunk
    (stroke eye None inks.Fault way) end (refused_way eye c.args.fault way) refl c.in-Ok.ensures.drawn
    (rw (c.spot.ensures, c.end.ensures) at c.draw_all.ensures.drawn)

use Rattle.std.proofs.Common.{◌++◌, refl}
use Rattle.ngc_picture_shapes.proofs.ShapeProgress.{both, cut_short}
use Rattle.ngc_drawing.specs.Holes.{holes}
use Rattle.ngc_picture_shapes.specs.Strokes.{strokes}
use Rattle.ngc_drawing.proofs.picture.draw_path.Goals as goal

pub returns-in-Err-clause-drawn : goal.returns-in-Err-clause-drawn
returns-in-Err-clause-drawn g c =
    let lines = strokes c.args.view c.args.tools.now c.args.commands.now in
    let drilled = holes c.args.view c.args.commands.now in
    cut_short c.args.unit.now.micrometres (g.W.Sink.written c.args.sink.now) (g.W.Sink.written c.draw_strokes.new.sink) c.args.chunk.now lines drilled
    (lines ++ drilled) refl c.in-Err.ensures.drawn

pub returns-clause-drawn : goal.returns-clause-drawn
returns-clause-drawn g c =
    let lines = strokes c.args.view c.args.tools.now c.args.commands.now in
    let drilled = holes c.args.view c.args.commands.now in
    both c.draw_holes.result c.args.unit.now.micrometres (g.W.Sink.written c.args.sink.now) (g.W.Sink.written c.draw_strokes.new.sink)
    (g.W.Sink.written c.draw_holes.new.sink) c.args.chunk.now c.draw_strokes.new.chunk c.draw_holes.new.chunk
    lines drilled (lines ++ drilled) refl c.in-Ok.ensures.drawn c.draw_holes.ensures.drawn

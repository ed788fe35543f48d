use Rattle.std.proofs.Common.{◌≡◌, drop}
use Rattle.ngc_picture_shapes.specs.Strokes.{strokes_from, strokes}
use Rattle.ngc_picture_shapes.proofs.ShapeProgress.{Ahead}
use Rattle.ngc_drawing.proofs.picture.draw_strokes.Given as goal

abbrev pub invariant-loop-command : goal.invariant-loop-command
invariant-loop-command g l = record {
  ahead : Ahead l.unit.micrometres (g.W.Sink.written l.initial.sink) (g.W.Sink.written l.sink) l.initial.chunk l.chunk
      (strokes_from l.tools l.pen (drop l.command-index l.commands)) (strokes l.fn.view l.tools l.commands);
  failures : g.W.Sink.failures l.sink ≡ g.W.Sink.failures l.initial.sink;
}

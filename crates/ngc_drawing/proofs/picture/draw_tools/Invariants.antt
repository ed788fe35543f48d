use Rattle.std.proofs.Common.{◌≡◌, drop}
use Rattle.ngc_drawing.specs.Pictures.{tool_rows}
use Rattle.ngc_picture_shapes.proofs.ShapeProgress.{Ahead}
use Rattle.ngc_drawing.proofs.picture.draw_tools.Given as goal

abbrev pub invariant-loop-rank : goal.invariant-loop-rank
invariant-loop-rank g l = record {
  ahead : Ahead l.unit.micrometres (g.W.Sink.written l.initial.sink) (g.W.Sink.written l.sink) l.initial.chunk l.chunk (tool_rows l.rank (drop l.rank l.tools))
      (tool_rows 0 l.tools);
  failures : g.W.Sink.failures l.sink ≡ g.W.Sink.failures l.initial.sink;
}

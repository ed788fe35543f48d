use Rattle.std.proofs.Common.{◌≡◌, drop}
use Rattle.ngc_drawing.specs.Holes.{holes_from, holes}
use Rattle.ngc_picture_shapes.proofs.ShapeProgress.{Ahead}
use Rattle.ngc_drawing.proofs.holes.draw_holes.Given as goal

abbrev pub invariant-loop-command : goal.invariant-loop-command
invariant-loop-command g l = record {
  ahead : Ahead l.unit.micrometres (g.W.Sink.written l.initial.sink) (g.W.Sink.written l.sink) l.initial.chunk l.chunk
      (holes_from l.drilling (drop l.command-index l.commands)) (holes l.fn.view l.commands);
  failures : g.W.Sink.failures l.sink ≡ g.W.Sink.failures l.initial.sink;
}

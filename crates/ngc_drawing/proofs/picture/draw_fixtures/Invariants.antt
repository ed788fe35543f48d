use Rattle.std.proofs.Common.{◌≡◌, drop}
use Rattle.ngc_drawing.specs.Pictures.{fixtures_from}
use Rattle.ngc_picture_shapes.proofs.ShapeProgress.{Ahead}
use Rattle.ngc_drawing.proofs.picture.draw_fixtures.Given as goal

abbrev pub invariant-loop-i : goal.invariant-loop-i
invariant-loop-i g l = record {
  ahead : Ahead l.unit.micrometres (g.W.Sink.written l.initial.sink) (g.W.Sink.written l.sink) l.initial.chunk l.chunk
      (fixtures_from l.view l.margin l.labels l.i (drop l.i l.fixtures)) (fixtures_from l.view l.margin l.labels 0 l.fixtures);
  failures : g.W.Sink.failures l.sink ≡ g.W.Sink.failures l.initial.sink;
}

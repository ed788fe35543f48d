use Rattle.std.proofs.Common.{◌≡◌, drop, None}
use Rattle.ngc_machine_files.specs.Machine.{file_of}
use Rattle.ngc_drawing.specs.Bodies.{swept_from}
use Rattle.ngc_picture_shapes.proofs.ShapeProgress.{Ahead}
use Rattle.ngc_drawing.proofs.bodies.draw_swept.Given as goal

abbrev pub invariant-loop-sweep : goal.invariant-loop-sweep
invariant-loop-sweep g l = record {
  ahead : Ahead l.unit.micrometres (g.W.Sink.written l.initial.sink) (g.W.Sink.written l.sink) l.initial.chunk l.chunk
      (swept_from l.view (file_of l.machine).step l.tools l.run (drop l.sweep-index l.sweeps))
      (swept_from l.view (file_of l.machine).step l.tools None l.sweeps);
  failures : g.W.Sink.failures l.sink ≡ g.W.Sink.failures l.initial.sink;
}

use Rattle.std.proofs.Common.{◌≡◌, ◌++◌, flat_map, take}
use Rattle.ngc_text.specs.Collected.{WritesPrefix}
use Rattle.ngc_picture_shapes.specs.Spelling.{shape_text}
use Rattle.ngc_picture_shapes.proofs.drawer.draw_all.Given as goal

abbrev pub invariant-loop-shape : goal.invariant-loop-shape
invariant-loop-shape g l = record {
  front : WritesPrefix (g.W.Sink.written l.initial.sink) (g.W.Sink.written l.sink)
      (l.initial.chunk ++ flat_map (shape_text l.unit.micrometres) (take l.shape-index l.shapes)) l.chunk;
  failures : g.W.Sink.failures l.sink ≡ g.W.Sink.failures l.initial.sink;
}

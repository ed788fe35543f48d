use Rattle.std.proofs.Common.{◌≡◌, ◌-◌}
use Rattle.ngc_map_picture.specs.Maps.{pixels, width}
use Rattle.ngc_map_picture.proofs.Blocked.{AddsUpTo}
use Rattle.ngc_map_picture.proofs.picture.add_pixels.Given as goal

abbrev pub invariant-loop-x : goal.invariant-loop-x
invariant-loop-x g l = record {
  added : AddsUpTo (g.W.Sink.written l.initial.sink) (g.W.Sink.written l.sink) l.initial.rows l.rows
      (pixels l.relief l.y 0 (width l.relief)) (pixels l.relief l.y l.x (width l.relief - l.x));
  failures : g.W.Sink.failures l.sink ≡ g.W.Sink.failures l.initial.sink;
}

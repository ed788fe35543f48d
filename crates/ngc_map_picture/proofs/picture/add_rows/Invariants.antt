use Rattle.std.proofs.Common.{◌≡◌, ◌-◌}
use Rattle.ngc_map_picture.specs.Maps.{height, scanlines}
use Rattle.ngc_map_picture.proofs.Blocked.{AddsUpTo}
use Rattle.ngc_map_picture.proofs.picture.add_rows.Given as goal

abbrev pub invariant-loop-y : goal.invariant-loop-y
invariant-loop-y g l = record {
  added : AddsUpTo (g.W.Sink.written l.initial.sink) (g.W.Sink.written l.sink) l.initial.rows l.rows
      (scanlines l.relief 0 (height l.relief)) (scanlines l.relief l.y (height l.relief - l.y));
  failures : g.W.Sink.failures l.sink ≡ g.W.Sink.failures l.initial.sink;
}

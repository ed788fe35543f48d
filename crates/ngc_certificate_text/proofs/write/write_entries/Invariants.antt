use Rattle.std.proofs.Common.{◌≡◌, ◌++◌, ◌≤◌, flat_map, take, drop}
use Rattle.ngc_text.specs.Collected.{WritesPrefix}
use Rattle.ngc_certificate_text.specs.Order.{items_in}
use Rattle.ngc_certificate_text.specs.Spelling.{item_lines}
use Rattle.ngc_certificate_text.proofs.write.write_entries.Given as goal

abbrev pub invariant-loop-kind : goal.invariant-loop-kind
invariant-loop-kind g l = record {
  front : WritesPrefix (g.W.Sink.written l.initial.sink) (g.W.Sink.written l.sink)
      (l.initial.chunk ++ flat_map item_lines (take l.kind-index (items_in l.order (g.M.MotionList.entries l.off) (g.M.MotionList.entries l.on)))) l.chunk;
  failures : g.W.Sink.failures l.sink ≡ g.W.Sink.failures l.initial.sink;
  off : l.passed.off ≤ l.kind-index;
  on : l.passed.on ≤ l.kind-index;
  rest : items_in (drop l.kind-index l.order) (drop l.passed.off (g.M.MotionList.entries l.off)) (drop l.passed.on (g.M.MotionList.entries l.on)) ≡ drop l.kind-index (items_in l.order (g.M.MotionList.entries l.off) (g.M.MotionList.entries l.on));
}

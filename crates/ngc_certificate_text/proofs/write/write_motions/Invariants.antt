use Rattle.std.proofs.Common.{◌≡◌, ◌++◌, flat_map, take}
use Rattle.ngc_text.specs.Collected.{WritesPrefix}
use Rattle.ngc_certificate_text.specs.Spelling.{entry_lines}
use Rattle.ngc_certificate_text.proofs.write.write_motions.Given as goal

abbrev pub invariant-loop-i : goal.invariant-loop-i
invariant-loop-i g l = record {
  front : WritesPrefix (g.W.Sink.written l.initial.sink) (g.W.Sink.written l.sink)
      (l.initial.chunk ++ flat_map entry_lines (take l.i (g.M.MotionList.entries l.motions))) l.chunk;
  failures : g.W.Sink.failures l.sink ≡ g.W.Sink.failures l.initial.sink;
}

use Rattle.std.proofs.Common.{◌≡◌, ◌-◌, ◌≤◌, ◌++◌, replicate}
use Rattle.ngc_text.specs.Collected.{WritesPrefix}
use Rattle.ngc_pulses.proofs.repeated.write_repeated.Given as goal

abbrev pub invariant-pieces : goal.invariant-pieces
invariant-pieces g l = record {
  few : l.left ≤ l.count;
  text : WritesPrefix (g.W.Sink.written l.initial.sink) (g.W.Sink.written l.sink) (l.initial.chunk ++ replicate (l.count - l.left) l.byte) l.chunk;
  failures : g.W.Sink.failures l.sink ≡ g.W.Sink.failures l.initial.sink;
}

abbrev pub decreases-pieces : goal.decreases-pieces
decreases-pieces g l = l.left

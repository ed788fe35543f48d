use Rattle.std.proofs.Common.{◌≡◌, ◌*◌, ◌^◌, false}
use Rattle.ngc_run_through.specs.Stretches.{GoesBy}
use Rattle.ngc_run_through.proofs.through.keep_full.Given as goal

abbrev pub invariant-loop-command : goal.invariant-loop-command
invariant-loop-command g l = record {
  goes : GoesBy (l._command * 2 ^ 103) l._command l._command l.initial.controller l.controller l.initial.recorder l.recorder (g.W.Sink.written l.initial.sink)
      (g.W.Sink.written l.sink);
  running : l.controller.state.stopped ≡ false;
  failures : g.W.Sink.failures l.sink ≡ g.W.Sink.failures l.initial.sink;
}

use Rattle.std.proofs.Common.{◌≡◌, ◌-◌, false}
use Rattle.ngc_run_through.specs.Stretches.{GoesBy, spent, SPENT_LIMIT}
use Rattle.ngc_run_through.proofs.through.play_head.Given as goal

abbrev pub invariant-ticks : goal.invariant-ticks
invariant-ticks g l = record {
  goes : GoesBy (spent l.controller.state) 0 0 l.initial.controller l.controller l.initial.recorder l.recorder (g.W.Sink.written l.initial.sink)
      (g.W.Sink.written l.sink);
  same : l.controller.state.ring ≡ l.initial.controller.state.ring;
  running : l.controller.state.stopped ≡ false;
  failures : g.W.Sink.failures l.sink ≡ g.W.Sink.failures l.initial.sink;
}

abbrev pub decreases-ticks : goal.decreases-ticks
decreases-ticks g l = SPENT_LIMIT - spent l.controller.state

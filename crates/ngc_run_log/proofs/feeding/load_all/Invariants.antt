-- The loads that were processed so far.
use Rattle.std.proofs.Common.{◌≡◌, ◌≤◌, length}
use Rattle.ngc_run_log.specs.Feeding.{IsLoaded}
use Rattle.ngc_run_log.proofs.feeding.load_all.Given as goal

abbrev pub invariant-loop-load : goal.invariant-loop-load
invariant-loop-load g l = record {
  job : l.controller.job ≡ l.initial.controller.job;
  loaded : IsLoaded l.initial.controller.job l.initial.controller.state l.controller.state l.initial.recorder l.recorder (g.W.Sink.written l.initial.sink)
      (g.W.Sink.written l.sink) l._load;
  ring : l._load ≤ length l.controller.state.ring;
  failures : g.W.Sink.failures l.sink ≡ g.W.Sink.failures l.initial.sink;
}

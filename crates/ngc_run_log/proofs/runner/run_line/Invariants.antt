use Rattle.std.proofs.Common.{◌≡◌, ◌-◌, ◌≤◌, replicate}
use Rattle.ngc_run_through.specs.Recording.{IsRecorded}
use Rattle.ngc_run_log.proofs.runner.run_line.Given as goal

abbrev pub invariant-turns : goal.invariant-turns
invariant-turns g l = record {
  few : l.left ≤ l.line.times;
  job : l.controller.job ≡ l.initial.controller.job;
  recorded : IsRecorded l.initial.controller.job l.initial.controller.state l.controller.state l.initial.recorder l.recorder (g.W.Sink.written l.initial.sink)
      (g.W.Sink.written l.sink) (replicate (l.line.times - l.left) l.line.event);
  failures : g.W.Sink.failures l.sink ≡ g.W.Sink.failures l.initial.sink;
}

abbrev pub decreases-turns : goal.decreases-turns
decreases-turns g l = l.left

use Rattle.std.proofs.Common.{◌≡◌, ◌*◌, ◌^◌, take}
use Rattle.ngc_machine_model.specs.Run.{events_of}
use Rattle.ngc_run_through.specs.Recording.{HasFew, IsRecorded}
use Rattle.ngc_run_log.proofs.runner.run_lines.Given as goal

abbrev pub invariant-loop-line : goal.invariant-loop-line
invariant-loop-line g l = record {
  job : l.controller.job ≡ l.initial.controller.job;
  recorded : IsRecorded l.initial.controller.job l.initial.controller.state l.controller.state l.initial.recorder l.recorder (g.W.Sink.written l.initial.sink)
      (g.W.Sink.written l.sink) (events_of (take l.line-index l.lines));
  few : HasFew (l.line-index * 2 ^ 32) l.recorder;
  failures : g.W.Sink.failures l.sink ≡ g.W.Sink.failures l.initial.sink;
}

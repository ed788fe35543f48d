-- The ticks that were processed so far.
use Rattle.std.proofs.Common.{◌≡◌, ◌+◌, ◌*◌, ℕ, replicate, true}
use Rattle.ngc_events.specs.declared.event.Event.TheVariants.{Tick}
use Rattle.ngc_run_log.specs.Feeding.{IsFed}
use Rattle.ngc_run_through.specs.Recording.{HasFew}
use Rattle.ngc_run_log.proofs.feeding.feed_ticks.Given as goal

abbrev pub invariant-loop-tick : goal.invariant-loop-tick
invariant-loop-tick g l = record {
  job : l.controller.job ≡ l.initial.controller.job;
  fed : IsFed true l.initial.controller.job l.initial.controller.state l.controller.state l.initial.recorder l.recorder (g.W.Sink.written l.initial.sink)
      (g.W.Sink.written l.sink) (replicate l._tick Tick);
  few : (n : ℕ) → HasFew n l.initial.recorder → HasFew (n + l._tick * 2048) l.recorder;
  failures : g.W.Sink.failures l.sink ≡ g.W.Sink.failures l.initial.sink;
}

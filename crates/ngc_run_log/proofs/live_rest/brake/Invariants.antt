-- The machine is held, and these ticks have braked it so far.
use Rattle.std.proofs.Common.{◌≡◌, ◌++◌, ℕ, List, Option, replicate, true}
use Rattle.ngc_events.specs.declared.event.Event.TheVariants.{Tick}
use Rattle.ngc_events.specs.declared.event.EventLine.{EventLine}
use Rattle.ngc_machine_model.specs.State.{least_change}
use Rattle.ngc_run_log.specs.Living.{HasRun}
use Rattle.ngc_run_log.specs.declared.live_form.LiveForm.{LiveForm}
use Rattle.ngc_run_log.proofs.RestLaws.{HasSlowed}
use Rattle.ngc_run_log.proofs.live_rest.brake.Given as goal

abbrev pub invariant-ticks : goal.invariant-ticks
invariant-ticks g l = record {
  job : l.live.job ≡ l.initial.live.job;
  feeds_ring : l.live.feeds ≡ l.initial.live.feeds;
  held : l.live.state.held ≡ true;
  brakes : (ticks : ℕ) × HasSlowed ticks (least_change l.initial.live.job) l.initial.live.state.rate l.live.state.rate ×
      ((form : LiveForm) (lines : List EventLine) (first : Option (List ℕ)) → HasRun form l.initial.live lines first (g.W.Sink.written l.initial.sink) →
      HasRun form l.live (lines ++ replicate ticks (record { event = Tick; times = 1 })) first (g.W.Sink.written l.sink));
  failures : g.W.Sink.failures l.sink ≡ g.W.Sink.failures l.initial.sink;
}

abbrev pub decreases-ticks : goal.decreases-ticks
decreases-ticks g l = l.live.state.rate

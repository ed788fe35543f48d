-- All bytes that were fed so far have arrived, and the others are left to feed.
use Rattle.std.proofs.Common.{◌≡◌, ◌+◌, ◌-◌, [], List, ℕ, Option}
use Rattle.ngc_events.specs.Arriving.{MOST_TEXT, filled}
use Rattle.ngc_run_log.specs.Living.{IsLive, LivesSoFar}
use Rattle.ngc_run_log.specs.declared.live_form.LiveForm.{LiveForm}
use Rattle.ngc_run_log.proofs.live_source.feed_from.Given as goal

abbrev pub invariant-turns : goal.invariant-turns
invariant-turns g l = record {
  lives : (form : LiveForm) (first : Option (List ℕ)) → IsLive form l.initial.live [] first (g.W.Sink.written l.initial.sink) →
      LivesSoFar form l.live l.input (g.S.Source.remaining l.initial.source) (g.S.Source.remaining l.source) first (g.W.Sink.written l.sink);
  job : l.live.job ≡ l.initial.live.job;
  feeds_ring : l.live.feeds ≡ l.initial.live.feeds;
  source : g.S.Source.failures l.source ≡ g.S.Source.failures l.initial.source;
  failures : g.W.Sink.failures l.sink ≡ g.W.Sink.failures l.initial.sink;
}

abbrev pub decreases-turns : goal.decreases-turns
decreases-turns g l = MOST_TEXT + 1 - filled l.live.arriving

use Rattle.std.proofs.Common.{◌++◌, inl, inr, subst, sym, ◌∙◌}
use Rattle.ngc_events.specs.Arriving.{HaveArrived}
use Rattle.ngc_run_log.proofs.LiveSources.{none_kept, one_left, turn_fails}
use Rattle.ngc_run_log.proofs.live_source.feed_next.Goals as goal

pub returns-in-Ok-clause-turns : goal.returns-in-Ok-clause-turns
returns-in-Ok-clause-turns g c = λ form text lines first arrived h.
    let fills = rw c.in-Ok-false.field-0-test at c.in-Ok-false.ensures.fills in
    record {
      read = fills.read;
      reads = fills.reads;
      none_waits = fills.none_waits;
      turns = (sym fills.are ∙ fills.some, c.in-Ok.ensures text lines arrived, h);
    }

pub returns-in-Err-finish-clause-turns : goal.returns-in-Err-finish-clause-turns
returns-in-Err-finish-clause-turns g c = λ form text lines first arrived h.
    let fills = rw c.in-Ok-false.field-0-test at c.in-Ok-false.ensures.fills in
    record {
      read = fills.read;
      reads = fills.reads;
      none_waits = fills.none_waits;
      turns = (inr (sym fills.are ∙ fills.some, c.in-Err-finish.ensures text lines arrived), h);
    }

pub returns-in-Ok-Some-clause-turns : goal.returns-in-Ok-Some-clause-turns
returns-in-Ok-Some-clause-turns g c = λ form text lines first arrived h.
    let fills = c.in-Ok-true.ensures.fills in
    let fed = rw c.in-Ok-Some.field-0-is at (c.in-Ok-Some.ensures.feeds form text lines first arrived h) in
    record {
      read = fills.read;
      reads = fills.reads;
      none_waits = fills.none_waits;
      turns = inl (fed.0, one_left text _ _ _ _ c.in-Ok-Some.rest.now lines fed.0 _ c.left.ensures fills.are c.keep.ensures fed.1, fed.2);
    }

pub returns-in-Ok-None-clause-turns : goal.returns-in-Ok-None-clause-turns
returns-in-Ok-None-clause-turns g c = λ form text lines first arrived h.
    let fills = c.in-Ok-true.ensures.fills in
    let fed = rw c.in-Ok-None.field-0-is at (c.in-Ok-None.ensures.feeds form text lines first arrived h) in
    record {
      read = fills.read;
      reads = fills.reads;
      none_waits = fills.none_waits;
      turns = inr (
        c.keep-in-Ok-None.ensures ∙ none_kept c.fill.new.self,
        subst (λ p. HaveArrived (text ++ p) lines c.feed.new.self.arriving) (c.left.ensures ∙ fills.are) fed.0,
        fed.1,
      );
    }

pub returns-in-Err-feed-clause-turns : goal.returns-in-Err-feed-clause-turns
returns-in-Err-feed-clause-turns g c = λ form text lines first arrived h.
    let fills = c.in-Ok-true.ensures.fills in
    record {
      read = fills.read;
      reads = fills.reads;
      none_waits = fills.none_waits;
      turns = turn_fails form _ text _ _ c.fill.new.self lines first _ c.in-Err-feed.fault (c.left.ensures ∙ fills.are)
          (c.in-Err-feed.ensures.feeds form text lines first arrived h);
    }

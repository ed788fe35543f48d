use Rattle.std.proofs.Common.{◌^◌, ◌+◌, ◌*◌, true, arith, refl, rules}
use Rattle.ngc_run_log.proofs.FeedingLaws.{nothing_fed_yet, ticks_all, ticks_cut, ticks_more}
use Rattle.ngc_run_through.proofs.UntouchedEvents.{at_most_more}
use Rattle.ngc_run_log.proofs.feeding.feed_ticks.Goals as goal

pub loop-tick-init : goal.loop-tick-init
loop-tick-init g c = record {
  job = refl;
  fed = nothing_fed_yet true _ _ _ _;
  few = λ n few. at_most_more n _ _ few (omega arith);
  failures = refl;
}

pub feed_tick-requires : goal.feed_tick-requires
feed_tick-requires g c =
    at_most_more (2 ^ 110 + c.loop-tick._tick * 2048) (2 ^ 112) _ (c.loop-tick.invariant.few (2 ^ 110) c.requires)
    (omega (arith, c.loop-tick-test.true, c.ranges.times))

pub returns-in-Err-clause-cut : goal.returns-in-Err-clause-cut
returns-in-Err-clause-cut g c =
    ticks_cut _ _ _ _ _ _ _ _ _ c.loop-tick._tick c.args.times c.loop-tick.invariant.job c.loop-tick-test.true c.loop-tick.invariant.fed c.in-Err.ensures.cut

pub loop-tick-preserved : goal.loop-tick-preserved
loop-tick-preserved g c = record {
  job = search rules;
  fed = ticks_more _ _ _ _ _ _ _ _ _ _ _ c.loop-tick._tick c.loop-tick.invariant.job c.loop-tick.invariant.fed c.in-Ok.ensures.fed;
  few = λ n few.
      at_most_more (n + c.loop-tick._tick * 2048 + 2048) (n + (c.loop-tick._tick + 1) * 2048) _
      (c.in-Ok.ensures.few (n + c.loop-tick._tick * 2048) (c.loop-tick.invariant.few n few)) (omega arith);
  failures = search rules;
}

pub returns-clause-fed : goal.returns-clause-fed
returns-clause-fed g c =
    ticks_all _ _ _ _ _ _ _ c.loop-tick._tick c.args.times (c.loop-tick.auto._tick-end) c.loop-tick-test.false c.loop-tick.invariant.fed

pub returns-clause-few : goal.returns-clause-few
returns-clause-few g c = λ n few.
    at_most_more (n + c.loop-tick._tick * 2048) (n + c.args.times * 2048) _ (c.loop-tick.invariant.few n few) (omega (arith, c.loop-tick.auto._tick-end))

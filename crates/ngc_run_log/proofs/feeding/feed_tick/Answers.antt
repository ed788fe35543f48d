use Rattle.std.proofs.Common.{◌^◌, arith}
use Rattle.ngc_run_log.proofs.FeedingLaws.{few_loaded, few_with_tick, tick_cut, tick_fed}
use Rattle.ngc_run_log.proofs.feeding.feed_tick.Goals as goal

pub add-requires : goal.add-requires
add-requires g c = few_loaded _ _ _ _ _ _ _ _ (2 ^ 112) (2 ^ 126) c.in-Ok.ensures.loads.1 c.requires (omega arith)

pub returns-in-Ok-add-clause-fed : goal.returns-in-Ok-add-clause-fed
returns-in-Ok-add-clause-fed g c =
    tick_fed _ _ _ _ _ _ _ _ _ _ _ _ _ c.in-Ok.ensures.job c.in-Ok.ensures.loads.1 c.in-Ok.ensures.full c.event-outcome.ensures.step
    c.event-outcome.ensures.goes_on c.in-Ok-add.ensures.records

pub returns-in-Ok-add-clause-few : goal.returns-in-Ok-add-clause-few
returns-in-Ok-add-clause-few g c = λ n few. few_with_tick _ _ _ _ _ _ _ _ _ _ _ n c.in-Ok.ensures.loads.1 c.in-Ok-add.ensures.records few

pub returns-in-Err-add-clause-cut : goal.returns-in-Err-add-clause-cut
returns-in-Err-add-clause-cut g c =
    tick_cut _ _ _ _ _ _ _ _ _ _ _ _ c.in-Ok.ensures.job c.in-Ok.ensures.loads.1 c.in-Ok.ensures.full c.event-outcome.ensures.step
    c.event-outcome.ensures.goes_on c.in-Err-add.ensures.fault

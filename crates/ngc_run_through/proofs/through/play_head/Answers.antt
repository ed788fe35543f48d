use Rattle.std.proofs.Common.{◌+◌, ◌^◌, arith, rules, refl, ◌∙◌}
use Rattle.std.proofs.lemmas.Result.{on_ok_weaker, on_err_weaker}
use Rattle.ngc_run_through.proofs.Policy.{still_ticks}
use Rattle.ngc_run_through.proofs.UntouchedEvents.{none_yet, breaks_later, few_behind, goes_both, spent_little, tick_more, tick_last, head_done}
use Rattle.ngc_run_through.proofs.through.play_head.Goals as goal

pub ticks-init : goal.ticks-init
ticks-init g c = record {
  goes = none_yet _ _ _ _ c.requires.untouched;
  same = refl;
  running = c.requires.runs;
  failures = refl;
}

pub tick-requires-clause-few : goal.tick-requires-clause-few
tick-requires-clause-few g c =
    let little = spent_little _ _ c.ticks.invariant.goes.untouched in
    few_behind _ _ _ (2 ^ 125) (2 ^ 126) _ _ _ _ _ _ c.ticks.invariant.goes c.requires.few (omega (arith, little))

pub tick-requires-clause-next : goal.tick-requires-clause-next
tick-requires-clause-next g c =
    let i = c.ticks.invariant in
    let done = i.goes.done in
    still_ticks c.args.controller.now.job c.ticks.controller.job c.args.controller.now.state c.ticks.controller.state c.requires.next c.requires.runs
    i.goes.job i.running i.same (omega (arith, done))

pub returns-in-Err-clause-fault : goal.returns-in-Err-clause-fault
returns-in-Err-clause-fault g c = breaks_later _ _ _ _ _ _ _ _ _ _ c.ticks.invariant.goes c.in-Err.ensures.fault

pub coast-requires-clause-few : goal.coast-requires-clause-few
coast-requires-clause-few g c =
    let more = tick_more _ _ _ _ _ _ _ _ _ _ c.in_default.is c.ticks.invariant.goes c.in-Ok.ensures.ticks in
    let little = spent_little _ _ more.0.untouched in
    few_behind _ _ _ (2 ^ 125) (2 ^ 125 + 2 ^ 102) _ _ _ _ _ _ more.0 c.requires.few (omega (arith, little))

pub coast-requires-clause-next : goal.coast-requires-clause-next
coast-requires-clause-next g c =
    let more = tick_more _ _ _ _ _ _ _ _ _ _ c.in_default.is c.ticks.invariant.goes c.in-Ok.ensures.ticks in
    let done = more.0.done in
    still_ticks c.args.controller.now.job c.tick.new.controller.job c.args.controller.now.state c.tick.new.controller.state c.requires.next c.requires.runs
    more.0.job more.1.running (more.1.ring ∙ c.ticks.invariant.same) (omega (arith, done))

pub ticks-smaller : goal.ticks-smaller
ticks-smaller g c =
    let more = tick_more _ _ _ _ _ _ _ _ _ _ c.in_default.is c.ticks.invariant.goes c.in-Ok.ensures.ticks in
    let coasts = c.coast.ensures (g.W.Sink.written c.tick.new.sink) in
    let little = spent_little _ _ more.0.untouched in
    let works = more.1.spends in
    let spends = coasts.spends in
    omega (arith, little, works, spends)

pub ticks-preserved : goal.ticks-preserved
ticks-preserved g c =
    let more = tick_more _ _ _ _ _ _ _ _ _ _ c.in_default.is c.ticks.invariant.goes c.in-Ok.ensures.ticks in
    let coasts = c.coast.ensures (g.W.Sink.written c.tick.new.sink) in
    let spends = coasts.spends in
    record {
      goes = goes_both _ _ _ 0 0 0 0 0 0 _ _ _ _ _ _ _ _ _ more.0 coasts.goes (omega (arith, spends)) refl refl;
      same = coasts.ring ∙ more.1.ring ∙ c.ticks.invariant.same;
      running = coasts.running;
      failures = search rules;
    }

pub continue_after-requires-clause-few : goal.continue_after-requires-clause-few
continue_after-requires-clause-few g c =
    few_behind _ _ _ (2 ^ 125) (2 ^ 126) _ _ _ _ _ _
    (tick_last _ _ _ _ _ _ _ _ _ _ _ c.in-Some.is c.ticks.invariant.same c.ticks.invariant.goes c.in-Ok.ensures.ticks).goes c.requires.few (omega arith)

pub continue_after-requires-clause-stops : goal.continue_after-requires-clause-stops
continue_after-requires-clause-stops g c =
    (tick_last _ _ _ _ _ _ _ _ _ _ _ c.in-Some.is c.ticks.invariant.same c.ticks.invariant.goes c.in-Ok.ensures.ticks).stops

pub returns-in-Some-clause-goes : goal.returns-in-Some-clause-goes
returns-in-Some-clause-goes g c =
    on_ok_weaker c.continue_after.result
    (head_done _ _ _ _ _ _ _ _ _ _ (tick_last _ _ _ _ _ _ _ _ _ _ _ c.in-Some.is c.ticks.invariant.same c.ticks.invariant.goes c.in-Ok.ensures.ticks))
    c.continue_after.ensures.goes

pub returns-in-Some-clause-fault : goal.returns-in-Some-clause-fault
returns-in-Some-clause-fault g c =
    on_err_weaker c.continue_after.result
    (breaks_later _ _ _ _ _ _ _ _ _ _
    (tick_last _ _ _ _ _ _ _ _ _ _ _ c.in-Some.is c.ticks.invariant.same c.ticks.invariant.goes c.in-Ok.ensures.ticks).goes) c.continue_after.ensures.fault

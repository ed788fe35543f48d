use Rattle.std.proofs.Common.{◌++◌, ◌∷◌, [], suc, ap, append-nil, arith, refl, subst, sym, ◌∙◌}
use Rattle.ngc_events.specs.declared.event.Event.TheVariants.{Hold}
use Rattle.ngc_machine_model.specs.State.{Job, least_change}
use Rattle.ngc_run_log.specs.Living.{HasRun}
use Rattle.ngc_run_log.proofs.RestLaws.{came_to_rest, cut_stops, hold_first, hold_holds, none_slowed, rests_already, slowed_more, least_change_some, tick_more, tick_slows}
use Rattle.ngc_run_log.proofs.live_rest.brake.Goals as goal

pub returns-then-rate-eq0-clause-rests : goal.returns-then-rate-eq0-clause-rests
returns-then-rate-eq0-clause-rests g c = λ form lines first h.
    rests_already form _ lines first _ (omega (arith, c.rate.ensures.value, c.if-rate-eq0.true))
    (least_change_some _ c.rate.ensures.machine) h

pub returns-in-Err-clause-cut : goal.returns-in-Err-clause-cut
returns-in-Err-clause-cut g c = λ form lines first h.
    cut_stops form _ _ _ _ lines _ first _ 0 (omega (arith, c.rate.ensures.value, c.if-rate-eq0.false)) c.in-Err.ensures.feeds_ring c.in-Err.ensures.job refl
    (c.in-Err.ensures.cut form lines first h)

pub ticks-init : goal.ticks-init
ticks-init g c =
    let held = hold_holds _ _ _ _ c.in-Ok.ensures.processes in
    record {
      job = refl;
      feeds_ring = refl;
      held = held.0;
      brakes = (
        0,
        none_slowed _ _ (omega (arith, c.rate.ensures.value, c.if-rate-eq0.false, held.1)),
        λ form lines first h. subst (λ l. HasRun form c.send.new.self l first (g.W.Sink.written c.send.new.sink)) (sym (append-nil lines)) h,
      );
      failures = refl;
    }

pub ticks-smaller : goal.ticks-smaller
ticks-smaller g c =
    let slows = tick_slows _ _ _ _ c.in-Ok-send.ensures.processes c.rate-in-ticks.ensures.machine c.ticks.invariant.held in
    omega (arith, slows.slower, least_change_some _ c.rate-in-ticks.ensures.machine, c.rate-in-ticks.ensures.value, c.ticks-test.true)

pub ticks-preserved : goal.ticks-preserved
ticks-preserved g c =
    let slows = tick_slows _ _ _ _ c.in-Ok-send.ensures.processes c.rate-in-ticks.ensures.machine c.ticks.invariant.held in
    let brakes = c.ticks.invariant.brakes in
    record {
      job = c.in-Ok-send.ensures.job ∙ c.ticks.invariant.job;
      feeds_ring = c.in-Ok-send.ensures.feeds_ring ∙ c.ticks.invariant.feeds_ring;
      held = slows.held;
      brakes = (
        suc brakes.0,
        slowed_more brakes.0 _ _ _ _ brakes.1 (omega (arith, c.rate-in-ticks.ensures.value, c.ticks-test.true))
            (omega (arith, slows.slower, ap (λ (j : Job). least_change j) c.ticks.invariant.job)),
        λ form lines first h.
            subst (λ l. HasRun form c.send-in-ticks.new.self l first (g.W.Sink.written c.send-in-ticks.new.sink)) (tick_more lines brakes.0)
            (c.in-Ok-send.ensures.runs form _ first (brakes.2 form lines first h)),
      );
      failures = c.in-Ok-send.ensures.failures ∙ c.ticks.invariant.failures;
    }

pub returns-in-Err-send-clause-cut : goal.returns-in-Err-send-clause-cut
returns-in-Err-send-clause-cut g c = λ form lines first h.
    let brakes = c.ticks.invariant.brakes in
    let held = lines ++ record { event = Hold; times = 1 } ∷ [] in
    cut_stops form _ _ _ _ lines _ first _ (suc brakes.0) (omega (arith, c.rate.ensures.value, c.if-rate-eq0.false)) c.in-Err-send.ensures.feeds_ring
    c.in-Err-send.ensures.job (tick_more held brakes.0 ∙ hold_first lines (suc brakes.0))
    (c.in-Err-send.ensures.cut form _ first (brakes.2 form held first (c.in-Ok.ensures.runs form lines first h)))

pub returns-clause-rests : goal.returns-clause-rests
returns-clause-rests g c = λ form lines first h.
    let brakes = c.ticks.invariant.brakes in
    let held = lines ++ record { event = Hold; times = 1 } ∷ [] in
    came_to_rest form _ _ _ _ lines _ first _ brakes.0 (omega (arith, c.rate.ensures.value, c.if-rate-eq0.false))
    (hold_holds _ _ _ _ c.in-Ok.ensures.processes).1 (ap (λ (j : Job). least_change j) c.ticks.invariant.job) (hold_first lines brakes.0) brakes.1
    (omega (arith, c.rate-in-ticks.ensures.value, c.ticks-test.false)) (brakes.2 form held first (c.in-Ok.ensures.runs form lines first h))

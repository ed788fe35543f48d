use Rattle.std.proofs.Common.{◌+◌, ◌*◌, ◌^◌, ℕ, arith, rules, refl, ◌∙◌}
use Rattle.std.proofs.lemmas.Result.{on_err_weaker}
use Rattle.ngc_events.specs.declared.event.EventLine.{EventLine}
use Rattle.ngc_events.specs.declared.event.Event.TheVariants.{Load}
use Rattle.ngc_run_through.proofs.RunParts.{nothing_recorded}
use Rattle.ngc_run_log.proofs.EventProgress.{line_recorded, line_cut, few_turns}
use Rattle.ngc_run_through.proofs.UntouchedEvents.{at_most_more}
use Rattle.ngc_run_through.proofs.RunResults.{AreNew, new_recorder, none_counted, run_traced, run_untraced, run_cut, if_ok_both}
use Rattle.ngc_run_log.proofs.runner.run_lines.Goals as goal

-- the value that is read after the last line
abbrev none : EventLine
none = record { event = Load; times = 0 }

pub loop-line-init : goal.loop-line-init
loop-line-init g c =
    let controller = c.args.controller.now in
    let new : AreNew c.args.trace controller.job controller.state c.new-recorder.result =
    new_recorder c.args.trace controller.job controller.state c.new-recorder.result _ c.requires.opens c.position.ensures c.new-recorder.ensures.report
    (c.new-recorder.ensures.motors ∙ c.motors.ensures) c.new-recorder.ensures.trace c.requires.begins c.new-recorder.ensures.chunk in
    record {
      job = refl;
      recorded = nothing_recorded _ _ _ _;
      few = none_counted _ _ _ _ 0 new;
      failures = refl;
    }

pub loop-line-preserved : goal.loop-line-preserved
loop-line-preserved g c =
    let at : ℕ = c.loop-line.line-index in
    record {
      job = search rules;
      recorded = line_recorded _ _ _ _ _ _ _ _ _ _ _ c.args.lines.now at none c.loop-line.invariant.job c.loop-line-test.true c.loop-line.invariant.recorded
          c.in-Ok.ensures.recorded;
      few = few_turns _ _ _ _ _ _ _ _ _ (at * 2 ^ 32) ((at + 1) * 2 ^ 32) c.in-Ok.ensures.recorded c.loop-line.invariant.few
          (omega (arith, c.run_line.ensures.times));
      failures = search rules;
    }

pub returns-in-Err-clause-broken : goal.returns-in-Err-clause-broken
returns-in-Err-clause-broken g c =
    let controller = c.args.controller.now in
    let new : AreNew c.args.trace controller.job controller.state c.new-recorder.result =
    new_recorder c.args.trace controller.job controller.state c.new-recorder.result _ c.requires.opens c.position.ensures c.new-recorder.ensures.report
    (c.new-recorder.ensures.motors ∙ c.motors.ensures) c.new-recorder.ensures.trace c.requires.begins c.new-recorder.ensures.chunk in
    run_cut _ _ _ _ _ _ _ new c.requires.safe c.requires.in_time
    (line_cut _ _ _ _ _ _ _ _ _ c.args.lines.now c.loop-line.line-index none c.loop-line.invariant.job c.loop-line-test.true c.loop-line.invariant.recorded
    c.in-Err.ensures.fault)

pub returns-clause-broken : goal.returns-clause-broken
returns-clause-broken g c =
    let controller = c.args.controller.now in
    let new : AreNew c.args.trace controller.job controller.state c.new-recorder.result =
    new_recorder c.args.trace controller.job controller.state c.new-recorder.result _ c.requires.opens c.position.ensures c.new-recorder.ensures.report
    (c.new-recorder.ensures.motors ∙ c.motors.ensures) c.new-recorder.ensures.trace c.requires.begins c.new-recorder.ensures.chunk in
    on_err_weaker c.finish.result
    (run_untraced _ _ _ _ _ _ _ _ _ c.args.lines.now c.loop-line.line-index new c.requires.safe c.requires.in_time c.loop-line-test.false
    c.loop-line.invariant.recorded) c.finish.ensures.fault

pub returns-clause-traced : goal.returns-clause-traced
returns-clause-traced g c =
    let controller = c.args.controller.now in
    let new : AreNew c.args.trace controller.job controller.state c.new-recorder.result =
    new_recorder c.args.trace controller.job controller.state c.new-recorder.result _ c.requires.opens c.position.ensures c.new-recorder.ensures.report
    (c.new-recorder.ensures.motors ∙ c.motors.ensures) c.new-recorder.ensures.trace c.requires.begins c.new-recorder.ensures.chunk in
    if_ok_both _ _ c.finish.result c.finish.ensures.report c.finish.ensures.ok
    (λ report same wrote. run_traced _ _ _ _ _ _ _ _ _ c.args.lines.now c.loop-line.line-index report new c.requires.safe c.requires.in_time
    c.loop-line-test.false c.loop-line.invariant.recorded wrote same)

pub finish-requires : goal.finish-requires
finish-requires g c = at_most_more (c.loop-line.line-index * 2 ^ 32) (2 ^ 126) _ c.loop-line.invariant.few (omega arith)

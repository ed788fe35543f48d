use Rattle.std.proofs.Common.{◌≡◌, ◌*◌, ◌^◌, ℕ, ap, subst, length, arith, rules, refl}
use Rattle.ngc_machine_model.specs.State.{Job}
use Rattle.ngc_run_through.specs.Stretches.{Finishes}
use Rattle.ngc_run_through.proofs.Policy.{last_ticks}
use Rattle.ngc_run_through.proofs.UntouchedEvents.{none_finished, one_more_finished, breaks_later, few_behind}
use Rattle.ngc_run_through.proofs.through.finish.Goals as goal

pub loop-command-init : goal.loop-command-init
loop-command-init g c = record {
  goes = none_finished _ _ _ _ c.requires.untouched;
  running = c.requires.runs;
  failures = refl;
}

pub finish_head-requires-clause-few : goal.finish_head-requires-clause-few
finish_head-requires-clause-few g c =
    few_behind _ _ _ (2 ^ 124) (2 ^ 125) _ _ _ _ _ _ c.loop-command.invariant.goes.goes c.requires.few (omega (arith, c.requires.small, c.requires.untouched.machine.ring.greatest))

pub finish_head-requires-clause-some : goal.finish_head-requires-clause-some
finish_head-requires-clause-some g c = omega (arith, c.loop-command.invariant.goes.goes.ring, c.requires.loaded)

pub finish_head-requires-clause-next : goal.finish_head-requires-clause-next
finish_head-requires-clause-next g c =
    let goes = c.loop-command.invariant.goes.goes in
    let lengths = ap (λ (j : Job). length j.commands) goes.job in
    last_ticks c.loop-command.controller.job c.loop-command.controller.state c.loop-command.invariant.running (omega (arith, goes.ring, goes.done, c.requires.all_loaded, lengths))
    (omega (arith, goes.ring, goes.done, c.requires.all_loaded, c.requires.loaded, lengths))

pub loop-command-preserved : goal.loop-command-preserved
loop-command-preserved g c = record {
  goes = one_more_finished _ _ _ _ _ _ _ _ _ _ _ _ _ (omega (arith, c.loop-command.invariant.goes.goes.ring, c.requires.loaded)) c.loop-command.invariant.goes
      c.in-Ok.ensures.goes (omega arith) (omega arith);
  running = c.in-Ok.ensures.runs;
  failures = search rules;
}

pub returns-in-Err-clause-fault : goal.returns-in-Err-clause-fault
returns-in-Err-clause-fault g c = breaks_later _ _ _ _ _ _ _ _ _ _ c.loop-command.invariant.goes.goes c.in-Err.ensures.fault

pub returns-clause-goes : goal.returns-clause-goes
returns-clause-goes g c =
    let all : c.loop-command._command ≡ c.args.count = omega (arith, c.loop-command-test.false, c.loop-command.auto._command-end) in
    subst (λ (n : ℕ). Finishes (n * 2 ^ 103) 0 n c.args.controller.now c.loop-command.controller c.args.recorder.now c.loop-command.recorder
    (g.W.Sink.written c.args.sink.now) (g.W.Sink.written c.loop-command.sink)) all c.loop-command.invariant.goes

use Rattle.std.proofs.Common.{◌≡◌, ℕ, ◌^◌, ap, length, arith, rules, refl, subst, ◌∙◌}
use Rattle.ngc_machine_model.specs.State.{Job}
use Rattle.ngc_run_through.specs.Stretches.{GoesBy}
use Rattle.ngc_run_through.proofs.UntouchedEvents.{none_yet, goes_both, breaks_later, few_behind}
use Rattle.ngc_run_through.proofs.through.fill_ring.Goals as goal

pub loop-command-init : goal.loop-command-init
loop-command-init g c = record {
  goes = none_yet 0 _ _ _ c.requires.untouched;
  still = refl;
  running = c.requires.runs;
  failures = refl;
}

pub load_next-requires-clause-few : goal.load_next-requires-clause-few
load_next-requires-clause-few g c =
    few_behind _ _ _ (2 ^ 120) (2 ^ 126) _ _ _ _ _ _ c.loop-command.invariant.goes c.requires.few (omega (arith, c.requires.room, c.requires.untouched.machine.ring.greatest))

pub load_next-requires-clause-room : goal.load_next-requires-clause-room
load_next-requires-clause-room g c =
    omega (arith, c.loop-command.invariant.goes.ring, c.requires.room, ap (λ (j : Job). j.machine.ring) c.loop-command.invariant.goes.job)

pub load_next-requires-clause-left : goal.load_next-requires-clause-left
load_next-requires-clause-left g c =
    let goes = c.loop-command.invariant.goes in
    omega (arith, goes.ring, goes.done, c.requires.left, ap (λ (j : Job). length j.commands) goes.job)

pub loop-command-preserved : goal.loop-command-preserved
loop-command-preserved g c = record {
  goes = goes_both _ 1 _ _ 1 _ 0 0 _ _ _ _ _ _ _ _ _ _ c.loop-command.invariant.goes c.in-Ok.ensures.goes (omega arith) (omega arith) (omega arith);
  still = c.in-Ok.ensures.still ∙ c.loop-command.invariant.still;
  running = c.in-Ok.ensures.runs;
  failures = search rules;
}

pub returns-in-Err-clause-fault : goal.returns-in-Err-clause-fault
returns-in-Err-clause-fault g c = breaks_later _ _ _ _ _ _ _ _ _ _ c.loop-command.invariant.goes c.in-Err.ensures.fault

pub returns-clause-goes : goal.returns-clause-goes
returns-clause-goes g c =
    let all : c.loop-command._command ≡ c.args.count = omega (arith, c.loop-command-test.false, c.loop-command.auto._command-end) in
    subst (λ (n : ℕ). GoesBy n n 0 c.args.controller.now c.loop-command.controller c.args.recorder.now c.loop-command.recorder
    (g.W.Sink.written c.args.sink.now) (g.W.Sink.written c.loop-command.sink)) all c.loop-command.invariant.goes

use Rattle.std.proofs.Common.{◌≡◌, ℕ, ◌+◌, ◌*◌, ◌^◌, ap, length, arith, rules, refl, subst}
use Rattle.ngc_machine_model.specs.State.{Job}
use Rattle.ngc_run_through.specs.Stretches.{GoesBy}
use Rattle.ngc_run_through.proofs.Policy.{full_ticks}
use Rattle.ngc_run_through.proofs.UntouchedEvents.{none_yet, goes_both, breaks_later, few_behind}
use Rattle.ngc_run_through.proofs.through.keep_full.Goals as goal

pub loop-command-init : goal.loop-command-init
loop-command-init g c = record {
  goes = none_yet _ _ _ _ c.requires.untouched;
  running = c.requires.runs;
  failures = refl;
}

pub finish_head-requires-clause-few : goal.finish_head-requires-clause-few
finish_head-requires-clause-few g c =
    few_behind _ _ _ (2 ^ 124) (2 ^ 125) _ _ _ _ _ _ c.loop-command.invariant.goes c.requires.few (omega (arith, c.requires.few_commands))

pub finish_head-requires-clause-some : goal.finish_head-requires-clause-some
finish_head-requires-clause-some g c = omega (arith, c.loop-command.invariant.goes.ring, c.requires.full, c.requires.untouched.machine.ring.least)

pub finish_head-requires-clause-next : goal.finish_head-requires-clause-next
finish_head-requires-clause-next g c =
    let goes = c.loop-command.invariant.goes in
    full_ticks c.loop-command.controller.job c.loop-command.controller.state c.loop-command.invariant.running (omega (arith, goes.ring, c.requires.full, ap (λ (j : Job). j.machine.ring) goes.job))
    (omega (arith, goes.ring, goes.done, c.requires.full, c.requires.left, c.requires.untouched.machine.ring.least, ap (λ (j : Job). length j.commands) goes.job))

pub load_next-requires-clause-few : goal.load_next-requires-clause-few
load_next-requires-clause-few g c =
    let before = few_behind _ _ _ (2 ^ 124) (2 ^ 125) _ _ _ _ _ _ c.loop-command.invariant.goes c.requires.few (omega (arith, c.requires.few_commands)) in
    few_behind _ _ _ (2 ^ 125) (2 ^ 126) _ _ _ _ _ _ c.in-Ok.ensures.goes.goes before (omega arith)

pub load_next-requires-clause-room : goal.load_next-requires-clause-room
load_next-requires-clause-room g c =
    let before = c.loop-command.invariant.goes in
    let head = c.in-Ok.ensures.goes.goes in
    omega (
      arith,
      before.ring,
      head.ring,
      c.requires.full,
      c.requires.untouched.machine.ring.least,
      ap (λ (j : Job). j.machine.ring) before.job,
      ap (λ (j : Job). j.machine.ring) head.job,
    )

pub load_next-requires-clause-left : goal.load_next-requires-clause-left
load_next-requires-clause-left g c =
    let before = c.loop-command.invariant.goes in
    let head = c.in-Ok.ensures.goes.goes in
    omega (
      arith,
      before.ring,
      before.done,
      head.ring,
      head.done,
      c.requires.left,
      ap (λ (j : Job). length j.commands) before.job,
      ap (λ (j : Job). length j.commands) head.job,
    )

pub loop-command-preserved : goal.loop-command-preserved
loop-command-preserved g c =
    let i = c.loop-command._command in
    let ended = goes_both _ (2 ^ 102) (i * 2 ^ 103 + 2 ^ 102) _ 0 i _ 1 (i + 1) _ _ _ _ _ _ _ _ _ c.loop-command.invariant.goes c.in-Ok.ensures.goes.goes
    (omega arith) (omega arith) (omega arith) in
    record {
      goes = goes_both _ 1 _ _ 1 _ _ 0 _ _ _ _ _ _ _ _ _ _ ended c.in-Ok-load_next.ensures.goes (omega arith) (omega arith) (omega arith);
      running = c.in-Ok-load_next.ensures.runs;
      failures = search rules;
    }

pub returns-in-Err-clause-fault : goal.returns-in-Err-clause-fault
returns-in-Err-clause-fault g c = breaks_later _ _ _ _ _ _ _ _ _ _ c.loop-command.invariant.goes c.in-Err.ensures.fault

pub returns-in-Err-load_next-clause-fault : goal.returns-in-Err-load_next-clause-fault
returns-in-Err-load_next-clause-fault g c =
    breaks_later _ _ _ _ _ _ _ _ _ _ c.loop-command.invariant.goes (breaks_later _ _ _ _ _ _ _ _ _ _ c.in-Ok.ensures.goes.goes c.in-Err-load_next.ensures.fault)

pub returns-clause-goes : goal.returns-clause-goes
returns-clause-goes g c =
    let all : c.loop-command._command ≡ c.args.count = omega (arith, c.loop-command-test.false, c.loop-command.auto._command-end) in
    subst (λ (n : ℕ). GoesBy (n * 2 ^ 103) n n c.args.controller.now c.loop-command.controller c.args.recorder.now c.loop-command.recorder
    (g.W.Sink.written c.args.sink.now) (g.W.Sink.written c.loop-command.sink)) all c.loop-command.invariant.goes

use Rattle.std.proofs.Common.{◌≡◌, ◌+◌, ◌-◌, ◌^◌, ℕ, replicate, subst, arith, rules, refl}
use Rattle.ngc_run_through.specs.Recording.{IsRecorded}
use Rattle.ngc_run_through.proofs.RunParts.{nothing_recorded}
use Rattle.ngc_run_log.proofs.EventProgress.{turn_recorded, turns_recorded, turn_cut, few_turns}
use Rattle.ngc_run_log.proofs.runner.run_line.Goals as goal

pub turns-init : goal.turns-init
turns-init g c =
    let controller = c.args.controller.now in
    let written = g.W.Sink.written c.args.sink.now in
    let P : ℕ → Type 0 = λ n. IsRecorded controller.job controller.state controller.state c.args.recorder.now c.args.recorder.now written written
    (replicate n c.args.line.now.event) in
    let none : 0 ≡ c.args.line.now.times - c.args.line.now.times = omega arith in
    record { few = omega arith; job = refl; recorded = subst P none (nothing_recorded _ _ _ _); failures = refl }

pub add-requires : goal.add-requires
add-requires g c =
    few_turns _ _ _ _ _ _ _ c.args.line.now.event (c.args.line.now.times - c.turns.left) (2 ^ 110) (2 ^ 126) c.turns.invariant.recorded c.requires (omega arith)

pub coast-left-requires : goal.coast-left-requires
coast-left-requires g c =
    let k = c.args.line.now.times - c.turns.left in
    few_turns _ _ _ _ _ _ _ c.args.line.now.event (k + 1) (2 ^ 110) (2 ^ 125)
    (turn_recorded _ _ _ _ _ _ _ _ _ _ _ c.args.line.now.event _ k c.turns.invariant.job c.turns.invariant.recorded c.event-outcome.ensures.step
    c.event-outcome.ensures.goes_on c.in-Ok.ensures.records) c.requires (omega arith)

pub returns-in-Err-clause-fault : goal.returns-in-Err-clause-fault
returns-in-Err-clause-fault g c =
    turn_cut _ _ _ _ _ _ _ _ _ _ c.args.line.now.event _ (c.args.line.now.times - c.turns.left) c.args.line.now.times c.turns.invariant.job
    (omega (arith, c.turns.invariant.few)) c.turns.invariant.recorded
    c.event-outcome.ensures.step c.event-outcome.ensures.goes_on c.in-Err.ensures.fault

pub turns-preserved : goal.turns-preserved
turns-preserved g c =
    let left = c.turns.left in
    let few = c.turns.invariant.few in
    record {
      few = omega (arith, few);
      job = search rules;
      recorded =
          turns_recorded _ _ _ _ _ _ _ _ _ _ _ _ _ _ c.args.line.now.event _ (c.args.line.now.times - left) c.coast-left.result
          (c.args.line.now.times - (left - 1 - c.coast-left.result)) c.turns.invariant.job
          c.turns.invariant.recorded c.event-outcome.ensures.step c.event-outcome.ensures.goes_on c.in-Ok.ensures.records c.event-outcome.ensures.job
          (c.coast-left.ensures.recorded _) (omega (arith, few, c.coast-left.ensures.few));
      failures = search rules;
    }

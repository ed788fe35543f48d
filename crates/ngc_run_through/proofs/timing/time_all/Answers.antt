use Rattle.std.proofs.Common.{ℕ, ◌^◌, ap, length, arith, subst, sym, refl, ◌∙◌}
use Rattle.ngc_machine_model.specs.State.{Job, State}
use Rattle.ngc_run_through.specs.Parts.{IsTimedThrough}
use Rattle.ngc_run_through.specs.declared.trace.Trace.TheVariants.{NotReported}
use Rattle.ngc_run_through.proofs.RunResults.{AreNew, new_recorder, none_counted}
use Rattle.ngc_run_through.proofs.OwnRunParts.{timed_through}
use Rattle.ngc_run_through.proofs.UntouchedEvents.{few_behind}
use Rattle.ngc_run_through.proofs.timing.time_all.Goals as goal

pub time_parts-requires-clause-few : goal.time_parts-requires-clause-few
time_parts-requires-clause-few g c =
    let controller = c.args.controller.now in
    let new : AreNew NotReported controller.job controller.state c.new-recorder.result =
    new_recorder NotReported controller.job controller.state c.new-recorder.result _ c.requires.opens c.position.ensures c.new-recorder.ensures.report
    (c.new-recorder.ensures.motors ∙ c.motors.ensures) c.new-recorder.ensures.trace refl c.new-recorder.ensures.chunk in
    few_behind _ _ _ 0 (2 ^ 10) _ _ _ _ _ _ c.load_first.ensures.goes (none_counted NotReported controller.job controller.state c.new-recorder.result 0 new)
    (omega (arith, c.min-first.ensures, c.ring.ensures, c.requires.machine.ring.greatest))

pub time_parts-requires-clause-full : goal.time_parts-requires-clause-full
time_parts-requires-clause-full g c = λ more.
    let none = ap (λ (s : State). length s.ring) c.requires.opens in
    omega (arith, more, none, c.load_first.ensures.goes.ring, c.min-first.ensures, c.ring.ensures, ap (λ (j : Job). j.machine.ring) c.load_first.ensures.goes.job)

pub returns-in-Ok-clause-times : goal.returns-in-Ok-clause-times
returns-in-Ok-clause-times g c =
    let controller = c.args.controller.now in
    let new : AreNew NotReported controller.job controller.state c.new-recorder.result =
    new_recorder NotReported controller.job controller.state c.new-recorder.result _ c.requires.opens c.position.ensures c.new-recorder.ensures.report
    (c.new-recorder.ensures.motors ∙ c.motors.ensures) c.new-recorder.ensures.trace refl c.new-recorder.ensures.chunk in
    let P : ℕ → Type 0 = λ n. IsTimedThrough controller.job n c.in-Ok.parts.items in
    subst P (sym c.ticks.ensures)
    (timed_through NotReported _ _ _ _ _ _ _ _ _ _ new c.requires.safe c.requires.in_time c.requires.has_end c.load_first.ensures.goes c.load_first.ensures.still
    refl c.in-Ok.ensures.parts c.in-Ok.ensures.runs)

pub returns-in-Ok-clause-accepted : goal.returns-in-Ok-clause-accepted
returns-in-Ok-clause-accepted g c = c.in-Ok.ensures.parts.goes.accepted ∙ c.load_first.ensures.goes.accepted

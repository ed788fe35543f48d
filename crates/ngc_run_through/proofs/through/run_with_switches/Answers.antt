use Rattle.std.proofs.Common.{ℕ, List, Option, Some, None, ap, refl, ◌∙◌}
use Rattle.std.specs.Io.KnownBytes.{Keeps}
use Rattle.ngc_machine_files.specs.Machine.{MachineFile, motors_of}
use Rattle.ngc_machine_model.specs.State.{Job}
use Rattle.ngc_run_through.proofs.RunResults.{safe_of, in_time_of, opens_of}
use Rattle.ngc_run_through.proofs.WholeRun.{machine_of, end_of}
use Rattle.ngc_run_through.proofs.ResultForms.{trace_is, none_ticked, through_written, through_off}
use Rattle.ngc_run_through.proofs.through.run_with_switches.Goals as goal

stays : (x : Option (List ℕ)) → Keeps x x
stays None = tt
stays (Some xs) = refl

pub run_to_end-requires-clause-safe : goal.run_to_end-requires-clause-safe
run_to_end-requires-clause-safe g c = safe_of c.args.accepted c.args.block_delete _ c.machine.ensures.accepted c.in-Ok.ensures.made.0

pub run_to_end-requires-clause-in_time : goal.run_to_end-requires-clause-in_time
run_to_end-requires-clause-in_time g c = in_time_of c.args.accepted c.args.block_delete _ c.machine.ensures.accepted c.in-Ok.ensures.made.0

pub run_to_end-requires-clause-opens : goal.run_to_end-requires-clause-opens
run_to_end-requires-clause-opens g c = opens_of c.args.accepted c.args.block_delete _ _ c.in-Ok.ensures.made.0 c.in-Ok.ensures.made.1

pub run_to_end-requires-clause-machine : goal.run_to_end-requires-clause-machine
run_to_end-requires-clause-machine g c = machine_of c.args.accepted c.args.block_delete _ c.machine.ensures.accepted c.in-Ok.ensures.made.0

pub run_to_end-requires-clause-has_end : goal.run_to_end-requires-clause-has_end
run_to_end-requires-clause-has_end g c = end_of c.args.accepted c.args.block_delete _ c.machine.ensures.accepted c.in-Ok.ensures.made.0

pub run_to_end-requires-clause-begins : goal.run_to_end-requires-clause-begins
run_to_end-requires-clause-begins g c = none_ticked c.args.form _ _ _ _ c.new-trace.ensures

pub returns-in-Ok-run_to_end-clause-runs_to_end : goal.returns-in-Ok-run_to_end-clause-runs_to_end
returns-in-Ok-run_to_end-clause-runs_to_end g c =
    through_written c.args.form c.new-trace.result _ _ _ _ _
    (trace_is c.args.form c.args.accepted c.args.block_delete _ _ _ _ _ _ _ c.machine.ensures.accepted
    c.requires c.new-trace.ensures
    (ap (λ (m : MachineFile). m.ticks_per_second) c.machine.ensures.value) c.counts-first.ensures
    (c.motors.ensures ∙ ap (λ (j : Job). motors_of j.machine) c.in-Ok.ensures.made.0) c.position.ensures c.in-Ok.ensures.made.1)
    c.in-Ok.ensures.made.0 c.in-Ok-run_to_end.ensures.traced

pub returns-clause-runs_to_end : goal.returns-clause-runs_to_end
returns-clause-runs_to_end g c =
    through_off c.args.form c.new-trace.result _ _ _ _
    (trace_is c.args.form c.args.accepted c.args.block_delete _ _ _ _ _ _ _ c.machine.ensures.accepted
    c.requires c.new-trace.ensures
    (ap (λ (m : MachineFile). m.ticks_per_second) c.machine.ensures.value) c.counts-first.ensures
    (c.motors.ensures ∙ ap (λ (j : Job). motors_of j.machine) c.in-Ok.ensures.made.0) c.position.ensures c.in-Ok.ensures.made.1)
    c.in-Ok.ensures.made.0 c.in-Err-run_to_end.ensures.broken

pub returns-in-Err-clause-runs_to_end : goal.returns-in-Err-clause-runs_to_end
returns-in-Err-clause-runs_to_end g c = stays _

use Rattle.std.proofs.Common.{ap, ◌∙◌, ℕ, List, Option, Some, None, refl}
use Rattle.std.specs.Io.KnownBytes.{Keeps}
use Rattle.ngc_machine_files.specs.Machine.{MachineFile, motors_of}
use Rattle.ngc_machine_model.specs.State.{Job}
use Rattle.ngc_run_through.proofs.RunResults.{safe_of, in_time_of, opens_of}
use Rattle.ngc_run_through.proofs.ResultForms.{are_switches, trace_is, none_ticked, run_written, run_unwritten}
use Rattle.ngc_run_log.proofs.runner.run_as.Goals as goal

keeps_same : (known : Option (List ℕ)) → Keeps known known
keeps_same None = tt
keeps_same (Some bytes) = refl

pub returns-in-Err-new-clause-comes : goal.returns-in-Err-new-clause-comes
returns-in-Err-new-clause-comes g c = keeps_same (g.W.Sink.written c.args.sink.now)

pub run_lines-requires-clause-safe : goal.run_lines-requires-clause-safe
run_lines-requires-clause-safe g c = safe_of c.args.accepted c.args.block_delete _ c.machine.ensures.accepted c.in-Ok-new.ensures.made.0

pub run_lines-requires-clause-in_time : goal.run_lines-requires-clause-in_time
run_lines-requires-clause-in_time g c = in_time_of c.args.accepted c.args.block_delete _ c.machine.ensures.accepted c.in-Ok-new.ensures.made.0

pub run_lines-requires-clause-opens : goal.run_lines-requires-clause-opens
run_lines-requires-clause-opens g c = opens_of c.args.accepted c.args.block_delete _ _ c.in-Ok-new.ensures.made.0 c.in-Ok-new.ensures.made.1

pub run_lines-requires-clause-begins : goal.run_lines-requires-clause-begins
run_lines-requires-clause-begins g c = none_ticked c.args.form _ _ _ _ c.new-trace.ensures

pub returns-in-Ok-run_lines-clause-comes : goal.returns-in-Ok-run_lines-clause-comes
returns-in-Ok-run_lines-clause-comes g c =
    run_written c.args.form c.new-trace.result _ _ _ _ _ _
    (trace_is c.args.form c.args.accepted c.args.block_delete _ _ _ _ _ _ _ c.machine.ensures.accepted
    (are_switches c.args.form _ _ _ _ c.commands.ensures c.as_slice.ensures.value c.in-Ok.ensures.are) c.new-trace.ensures
    (ap (λ (m : MachineFile). m.ticks_per_second) c.machine.ensures.value) c.counts-first.ensures
    (c.motors.ensures ∙ ap (λ (j : Job). motors_of j.machine) c.in-Ok-new.ensures.made.0) c.position.ensures c.in-Ok-new.ensures.made.1)
    c.in-Ok-new.ensures.made.0 c.in-Ok-run_lines.ensures.traced

pub returns-clause-comes : goal.returns-clause-comes
returns-clause-comes g c =
    run_unwritten c.args.form c.new-trace.result _ _ _ _ _
    (trace_is c.args.form c.args.accepted c.args.block_delete _ _ _ _ _ _ _ c.machine.ensures.accepted
    (are_switches c.args.form _ _ _ _ c.commands.ensures c.as_slice.ensures.value c.in-Ok.ensures.are) c.new-trace.ensures
    (ap (λ (m : MachineFile). m.ticks_per_second) c.machine.ensures.value) c.counts-first.ensures
    (c.motors.ensures ∙ ap (λ (j : Job). motors_of j.machine) c.in-Ok-new.ensures.made.0) c.position.ensures c.in-Ok-new.ensures.made.1)
    c.in-Ok-new.ensures.made.0 c.in-Err-run_lines.ensures.broken

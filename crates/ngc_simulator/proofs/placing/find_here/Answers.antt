use Rattle.std.proofs.Common.{subst, true}
use Rattle.ngc_certificate.specs.Plans.{both_planned}
use Rattle.ngc_job.specs.Job.{commands_in}
use Rattle.ngc_inputs.specs.Jobs.{IsUnmade}
use Rattle.ngc_simulator.proofs.placing.find_here.Goals as goal

pub returns-in-Ok : goal.returns-in-Ok
returns-in-Ok g c =
    let j = c.args.job.now in
    (both_planned j.machine.step j.off (commands_in true j) c.in-Ok._plans, c.in-Ok.ensures.made)

pub returns-in-Err-NotCleared : goal.returns-in-Err-NotCleared
returns-in-Err-NotCleared g c =
    let refused = c.in-Err-NotCleared in
    (refused.command, subst (IsUnmade c.args.job.now c.args.cuts) refused.field-0-is refused.ensures.made, c.line_at.ensures)

use Rattle.std.specs.Prelude.{true}
use Rattle.ngc_certificate.specs.Plans.{both_planned}
use Rattle.ngc_job.specs.Job.{commands_in}
use Rattle.ngc_program_report.proofs.timing.accept.Goals as goal

pub new-requires : goal.new-requires
new-requires g c =
    let job = c.args.job in
    let good = c.machine.ensures.job in
    record {
      machine = good.machine;
      certificate = both_planned job.machine.step job.off (commands_in true job) c.args.plans.now;
      off_valid = c.requires.off;
      on_valid = c.requires.on;
      off_commands = good.off_commands;
      on_commands = good.on_commands;
    }

use Rattle.std.specs.Prelude.{true}
use Rattle.ngc_certificate_text.specs.Ahead.{certificate_of}
use Rattle.ngc_job.specs.Job.{commands_in}
use Rattle.ngc_checker.proofs.JudgeLaws.{begins_on, begun_says, begun_walking}
use Rattle.ngc_checker.proofs.judge.Judge.new.Goals as goal

pub invariant_of-result : goal.invariant_of-result
invariant_of-result g c =
    let job = c.args.job in
    let on_commands = commands_in true job in
    let good = c.machine.ensures.job in
    let off = c.new-off_walk.ensures in
    let on = c.new-on_walk.ensures in
    let off_begins = begins_on _ _ c.new-off_walk.result c.machine.ensures.value off.begins in
    let on_begins = begins_on _ _ c.new-on_walk.result c.machine-2.ensures.value on.begins in
    record {
      good_machine = good.machine;
      off_commands = good.off_commands;
      on_commands = good.on_commands;
      off_walking = begun_walking job.machine job.off c.new-off_walk.result off.none off.index;
      on_walking = begun_walking job.machine on_commands c.new-on_walk.result on.none on.index;
      certificate = certificate_of;
      says = λ r fits. begun_says job.machine job.off on_commands c.new-off_walk.result c.new-on_walk.result off_begins off.none on_begins on.none r;
    }

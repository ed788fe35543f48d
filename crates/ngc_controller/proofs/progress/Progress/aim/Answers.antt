use Rattle.ngc_machine_files.specs.Machine.{file_of}
use Rattle.ngc_controller.proofs.AimLaws.{aimed}
use Rattle.ngc_controller.proofs.progress.Progress.aim.Goals as goal

pub returns-in-Some-clause-target : goal.returns-in-Some-clause-target
returns-in-Some-clause-target g c =
    let ring = c.args.self.now.ring in
    let found = rw c.in-Some.is at c.head.ensures in
    aimed (file_of c.args.machine.now) c.args.percent ring.loaded ring.place c.in-Some.head.now c.path_steps.result c.target_on-self.result c.position.result
    found c.path_steps.ensures.value c.position.ensures (rw c.command.ensures at c.target_on-self.ensures.value)

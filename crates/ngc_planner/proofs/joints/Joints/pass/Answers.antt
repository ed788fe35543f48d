use Rattle.ngc_machine_files.specs.Machine.{file_of}
use Rattle.ngc_planner.proofs.TrailLaws.{joints_more}
use Rattle.ngc_planner.proofs.joints.Joints.pass.Goals as goal

pub returns-clause-passed : goal.returns-clause-passed
returns-clause-passed g c =
    joints_more (file_of c.args.machine.now) c.args.commands.now c.args.index c.joint_at-self-inside.ensures.value c.follow.ensures

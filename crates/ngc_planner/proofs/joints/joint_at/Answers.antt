use Rattle.std.proofs.Common.{◌+◌, length, refl, ap}
use Rattle.std.proofs.lemmas.Option.{slice_get_read}
use Rattle.ngc_machine_files.specs.Machine.{file_of}
use Rattle.ngc_planner.specs.Trail.{TrailData}
use Rattle.ngc_planner.specs.Window.{earlier}
use Rattle.ngc_planner.proofs.joints.joint_at.Goals as goal

pub returns-in-Some-Some-clause-value : goal.returns-in-Some-Some-clause-value
returns-in-Some-Some-clause-value g c =
    let commands = c.args.commands.now in
    let m = file_of c.args.machine.now in
    let first = c.in-Some-Some.ensures.lookup in
    let second = c.in-Some-Some.ensures'.lookup in
    let command = slice_get_read commands (length commands) c.args.index c.in-Some-Some.command.now refl first.3.0 first.1 in
    let next = slice_get_read commands (length commands) (c.args.index + 1) c.in-Some-Some.next.now refl second.3.0 second.1 in
    rw (command, next) (c.joint_of_actions.ensures.value (earlier m commands c.args.index) (ap (λ (t : TrailData). t.passed) c.requires))

use Rattle.std.proofs.Common.{◌≡◌, drop}
use Rattle.std.specs.Prelude.{fold, map}
use Rattle.ngc_commands.specs.Movement.{actions_of, ways_of}
use Rattle.ngc_machine_files.specs.Machine.{file_of}
use Rattle.ngc_findings.specs.Extents.{joint_box, reach, extent}
use Rattle.ngc_findings.proofs.bounds.extent.Given as goal

abbrev pub invariant-loop-command : goal.invariant-loop-command
invariant-loop-command g l =
    fold joint_box l.bounds (map (reach l.machine.step) (ways_of (actions_of (drop l.command-index l.commands)))) ≡ extent (file_of l.machine) l.commands

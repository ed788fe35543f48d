use Rattle.std.proofs.Common.{◌-◌}
use Rattle.ngc_machine_files.specs.Machine.{file_of}
use Rattle.ngc_planner.proofs.TrailLaws.{IsLookedBack}
use Rattle.ngc_planner.proofs.trail.Trail.lowered.Given as goal

abbrev pub invariant-loop-mark : goal.invariant-loop-mark
invariant-loop-mark g l = IsLookedBack (file_of l.machine) l.next l.fn.rate l.fn.way l.self.passed l.look

abbrev pub decreases-loop-mark : goal.decreases-loop-mark
decreases-loop-mark g l = 1024 - l.look.passed

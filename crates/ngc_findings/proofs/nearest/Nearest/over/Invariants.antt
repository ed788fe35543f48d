use Rattle.std.proofs.Common.{◌≡◌, take, drop, flat_map}
use Rattle.std.specs.Prelude.{fold}
use Rattle.ngc_machine_files.specs.Machine.{file_of}
use Rattle.ngc_findings.specs.Nearing.{nearer, over_motion, nearest}
use Rattle.ngc_findings.proofs.nearest.Nearest.over.Given as goal

abbrev pub invariant-loop-i : goal.invariant-loop-i
invariant-loop-i g l =
    fold nearer l.nearest (flat_map (over_motion (file_of l.machine) l.tool) (drop l.i (take l.end (g.M.MotionList.entries l.motions))))
    ≡ nearest (file_of l.machine) l.tool (drop l.first (take l.end (g.M.MotionList.entries l.motions)))

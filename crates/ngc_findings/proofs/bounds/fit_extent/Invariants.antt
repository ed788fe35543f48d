use Rattle.std.proofs.Common.{◌≡◌, drop, flat_map}
use Rattle.std.specs.Prelude.{fold}
use Rattle.ngc_machine_files.specs.Machine.{file_of}
use Rattle.ngc_findings.specs.Extents.{joint_box, boxes_of, fit_extent}
use Rattle.ngc_findings.proofs.bounds.fit_extent.Given as goal

abbrev pub invariant-loop-i : goal.invariant-loop-i
invariant-loop-i g l = fold joint_box l.bounds (flat_map boxes_of (drop l.i (g.M.MotionList.entries l.motions))) ≡ fit_extent (file_of l.machine) (g.M.MotionList.entries l.motions)

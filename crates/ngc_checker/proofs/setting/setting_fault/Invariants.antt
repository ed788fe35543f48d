-- The remaining motions have the same result as all of them.
use Rattle.std.proofs.Common.{◌≡◌, ◌≤◌, None, [], length, drop}
use Rattle.ngc_machine_files.specs.Machine.{file_of}
use Rattle.ngc_checker.specs.FirstRefusal.{setting_fault}
use Rattle.ngc_checker.specs.Walking.{fault_left}
use Rattle.ngc_checker.proofs.setting.setting_fault.Given as goal

abbrev pub invariant-loop-index : goal.invariant-loop-index
invariant-loop-index g l = record {
  within : l.judge.walk.index ≤ length l.commands;
  none : l.judge.following ≡ None;
  left : setting_fault (file_of l.machine) l.setting l.commands (g.M.MotionList.entries l.motions)
      ≡ fault_left (file_of l.machine) l.setting l.commands l.judge [] (drop l.index (g.M.MotionList.entries l.motions));
}

-- The remaining pieces have the same result as all of them.
use Rattle.std.proofs.Common.{◌≡◌, ◌≤◌, ◌-◌, None, List, length, drop}
use Rattle.ngc_machine_files.specs.Machine.{file_of}
use Rattle.ngc_certificate_text.specs.Certificate.{Entry, entry_at}
use Rattle.ngc_checker.specs.Following.{IsFollowing}
use Rattle.ngc_checker.specs.Walking.{fault_left}
use Rattle.ngc_checker.proofs.setting_judge.SettingJudge.entry.Given as goal

abbrev pub invariant-loop-done : goal.invariant-loop-done
invariant-loop-done g l = record {
  within : l.self.walk.index ≤ length l.commands;
  following : IsFollowing (file_of l.machine) l.self.following (length (entry_at (g.M.MotionList.entries l.motions) l.i).pieces - l.done);
  none : l.done ≡ length (entry_at (g.M.MotionList.entries l.motions) l.i).pieces → l.self.following ≡ None;
  left : (entries : List Entry) →
      fault_left (file_of l.machine) l.setting l.commands l.initial.self (entry_at (g.M.MotionList.entries l.motions) l.i).pieces entries
      ≡ fault_left (file_of l.machine) l.setting l.commands l.self (drop l.done (entry_at (g.M.MotionList.entries l.motions) l.i).pieces) entries;
}

use Rattle.std.proofs.Common.{◌≤◌, ℕ, List, length}
use Rattle.std.specs.Prelude.{drop, Result}
use Rattle.ngc_machine_files.specs.Machine.{file_of}
use Rattle.ngc_commands.specs.Movement.{actions_of}
use Rattle.ngc_certificate_text.specs.Certificate.{Entry, AreEntries}
use Rattle.ngc_certificate.specs.Made.{IsSettingMade}
use Rattle.ngc_certificate.specs.Making.{made_by, IsAllowedFrom}
use Rattle.ngc_certificate.proofs.maker.fill.Given as goal

abbrev pub invariant-loop-index : goal.invariant-loop-index
invariant-loop-index g l = record {
  leads : (says : Result (List Entry) ℕ) →
      IsAllowedFrom (file_of l.machine) l.most l.index (made_by (λ m. g.M.MotionStore.entries m l.machine.step l.commands) l.progress)
      (actions_of (drop l.index l.commands)) says → IsSettingMade (file_of l.machine) l.most l.commands says;
  count : length (g.M.MotionStore.entries l.progress.motions l.machine.step l.commands) ≤ l.index;
  are : AreEntries (g.M.MotionStore.entries l.progress.motions l.machine.step l.commands);
}

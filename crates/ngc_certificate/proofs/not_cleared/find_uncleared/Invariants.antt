use Rattle.std.proofs.Common.{◌≡◌, ℕ, ◌+◌, ◌<◌, ◌≤◌, List, [], ◌++◌, Err}
use Rattle.std.specs.Prelude.{drop}
use Rattle.ngc_machine_files.specs.Machine.{file_of}
use Rattle.ngc_commands.specs.Movement.{actions_of}
use Rattle.ngc_certificate.specs.Made.{IsMadeFrom}
use Rattle.ngc_certificate.specs.Uncleared.{AreUnclearedFrom, AreUncleared, BeginsWith}
use Rattle.ngc_certificate.proofs.not_cleared.find_uncleared.Given as goal

-- the commands so far that aren't cleared, and then those of the remaining commands; there is none
-- before the refused command, and from it on that is the first
abbrev pub invariant-loop-index : goal.invariant-loop-index
invariant-loop-index g l = record {
  are : (ks : List ℕ) → AreUnclearedFrom (file_of l.machine) l.cuts l.index l.reached.tool l.reached.place (actions_of (drop l.index l.commands)) ks →
      AreUncleared (file_of l.machine) l.cuts l.commands (l.indices.items ++ ks);
  refused : (k : ℕ) → l.passed ≡ k + 1 → l.index ≤ k →
      IsMadeFrom (file_of l.machine) l.cuts l.index l.reached.tool l.reached.place (actions_of (drop l.index l.commands)) (Err k);
  none : (k : ℕ) → l.passed ≡ k + 1 → l.index ≤ k → l.indices.items ≡ [];
  begins : (k : ℕ) → l.passed ≡ k + 1 → k < l.index → BeginsWith k l.indices.items;
}

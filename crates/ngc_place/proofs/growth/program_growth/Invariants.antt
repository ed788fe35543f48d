use Rattle.std.proofs.Common.{◌≡◌, ℕ, ◌+◌, ◌<◌, ◌≤◌, false}
use Rattle.ngc_machine_files.specs.Machine.{file_of}
use Rattle.ngc_place.specs.Growth.{holds_after}
use Rattle.ngc_place.proofs.GrowthTests.{rest_after}
use Rattle.ngc_place.proofs.growth.program_growth.Given as goal

abbrev pub invariant-loop-index : goal.invariant-loop-index
invariant-loop-index g l = record {
  within : l.steps ≤ l.bound;
  same : (n : ℕ) → n ≤ l.steps →
      holds_after (file_of l.machine) l.cuts l.growing l.program n ≡ rest_after (file_of l.machine) l.cuts l.growing l.program l.reached l.moves l.index n;
  full : l.steps < l.bound → holds_after (file_of l.machine) l.cuts l.growing l.program (l.steps + 1) ≡ false;
}

use Rattle.std.proofs.Common.{◌≡◌, ℕ, ◌+◌, ◌<◌, ◌≤◌, false, drop}
use Rattle.ngc_machine_files.specs.Machine.{file_of}
use Rattle.ngc_place.specs.Inside.{steps_left}
use Rattle.ngc_place.specs.Growth.{all_after}
use Rattle.ngc_place.proofs.growth.growth.Given as goal

abbrev pub invariant-loop-program : goal.invariant-loop-program
invariant-loop-program g l = record {
  within : l.steps ≤ steps_left l.growing.side l.growing.interval;
  same : (n : ℕ) → n ≤ l.steps →
      all_after (file_of l.machine) l.cuts l.growing l.programs n ≡ all_after (file_of l.machine) l.cuts l.growing (drop l.program-index l.programs) n;
  full : l.steps < steps_left l.growing.side l.growing.interval → all_after (file_of l.machine) l.cuts l.growing l.programs (l.steps + 1) ≡ false;
}

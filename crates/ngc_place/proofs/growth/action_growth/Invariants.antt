use Rattle.std.proofs.Common.{◌≡◌, ◌≤◌, false}
use Rattle.ngc_machine_files.specs.Machine.{file_of}
use Rattle.ngc_place.specs.Growth.{clear_after}
use Rattle.ngc_place.proofs.growth.action_growth.Given as goal

abbrev pub invariant-loop-span : goal.invariant-loop-span
invariant-loop-span g l = record {
  some : 1 ≤ l.span;
  above : 1 ≤ l.over;
  within : l.over ≤ l.bound;
  over : clear_after (file_of l.machine) l.cuts l.growing l.next.reached.now l.next.moving l.next.action.now l.over ≡ false;
}

abbrev pub decreases-loop-span : goal.decreases-loop-span
decreases-loop-span g l = l.over

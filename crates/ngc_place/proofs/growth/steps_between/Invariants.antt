use Rattle.std.proofs.Common.{◌≡◌, ◌<◌, ◌≤◌, ◌-◌, false}
use Rattle.std.specs.Prelude.{IsTrue}
use Rattle.ngc_machine_files.specs.Machine.{file_of}
use Rattle.ngc_place.specs.Growth.{clear_after}
use Rattle.ngc_place.proofs.growth.steps_between.Given as goal

abbrev pub invariant-loop-beyond : goal.invariant-loop-beyond
invariant-loop-beyond g l = record {
  order : l.steps < l.beyond;
  within : l.beyond ≤ l.over;
  clear : IsTrue (clear_after (file_of l.machine) l.cuts l.growing l.next.reached.now l.next.moving l.next.action.now l.steps);
  over : clear_after (file_of l.machine) l.cuts l.growing l.next.reached.now l.next.moving l.next.action.now l.beyond ≡ false;
}

abbrev pub decreases-loop-beyond : goal.decreases-loop-beyond
decreases-loop-beyond g l = l.beyond - l.steps

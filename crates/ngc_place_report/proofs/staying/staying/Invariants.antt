use Rattle.std.proofs.Common.{◌≡◌, ◌≤◌}
use Rattle.std.specs.Prelude.{drop}
use Rattle.ngc_place_report.specs.Staying.{motions_of, staying_after, staying_of}
use Rattle.ngc_place_report.proofs.staying.staying.Given as goal

abbrev pub invariant-loop-index : goal.invariant-loop-index
invariant-loop-index l = record {
  left : staying_after l.found (drop l.index l.marks) (drop l.index l.commands) ≡ staying_of l.program;
  count : motions_of l.found ≤ l.index;
}

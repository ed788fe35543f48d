use Rattle.std.proofs.Common.{◌≡◌, ◌+◌, ◌≤◌, length}
use Rattle.ngc_file_lines.specs.Lines.{lines_of}
use Rattle.ngc_file_lines.specs.Places.{place_after, place_from}
use Rattle.ngc_file_lines.proofs.place.place_after.Given as goal

abbrev pub invariant-loop-left : goal.invariant-loop-left
invariant-loop-left l = record {
  same : place_after l.count l.bytes ≡ place_from l.number l.before (lines_of l.left);
  number : l.number + length l.left ≤ length l.bytes + 1;
}

abbrev pub decreases-loop-left : goal.decreases-loop-left
decreases-loop-left l = length l.left

-- The place is the one in the lines from here on.
use Rattle.std.proofs.Common.{◌≡◌, ◌+◌, ◌≤◌, length}
use Rattle.ngc_grbl_lines.specs.Lines.{lines_of}
use Rattle.ngc_machine_maker.specs.Stored.{place_from}
use Rattle.ngc_machine_maker.proofs.stored.place.Given as goal

abbrev pub invariant-loop-rest : goal.invariant-loop-rest
invariant-loop-rest l = record {
  value : place_from l.form l.stored l.at (lines_of l.rest) ≡ place_from l.form l.stored 1 (lines_of l.fn.text);
  at : l.at + length l.rest ≤ length l.fn.text + 1;
}

abbrev pub decreases-loop-rest : goal.decreases-loop-rest
decreases-loop-rest l = length l.rest

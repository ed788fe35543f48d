-- The places so far have other kinds.
use Rattle.std.proofs.Common.{◌≡◌, ◌++◌, drop, take, length}
use Rattle.ngc_dialect_notes.specs.Notes.{counted_in}
use Rattle.ngc_dialect_notes.proofs.notes.count_in.Given as goal

abbrev pub invariant-loop-i : goal.invariant-loop-i
invariant-loop-i l = record {
  long : length l.places ≡ 52;
  same : take l.i l.places ++ counted_in l.line l.kind (drop l.i l.places) ≡ counted_in l.line l.kind l.initial.places;
}

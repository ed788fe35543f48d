-- The numbers so far and those to come are those of the text.
use Rattle.std.proofs.Common.{◌≡◌, ◌≤◌, length}
use Rattle.ngc_certificate_text.specs.Lines.{numbers_in}
use Rattle.ngc_certificate_text.specs.Clamped.{all_fields, numbers_left}
use Rattle.ngc_certificate_text.proofs.FieldNumbers.{gathered, room_left}
use Rattle.ngc_certificate_text.proofs.number.numbers_in.Given as goal

abbrev pub invariant-loop-left : goal.invariant-loop-left
invariant-loop-left l = record {
  few : length l.numbers.items ≤ 8;
  all : numbers_left (all_fields l.fn.text) ≡ gathered l.numbers.items (numbers_in (all_fields l.left));
}

abbrev pub decreases-loop-left : goal.decreases-loop-left
decreases-loop-left l = room_left l.left

-- The text so far, and that of the rest, as at the beginning; the rest has the same fault.
use Rattle.std.proofs.Common.{◌≡◌, ℕ, ◌≤◌, ◌+◌, ◌-◌, ◌++◌, Bool, drop, length}
use Rattle.arrayvec.specs.ArrayVec.{array_vec_len}
use Rattle.ngc_dialect_reader.specs.declared.text.Place.TheVariants.{Outside}
use Rattle.ngc_dialect_reader.specs.Text.{text_from, text_fault}
use Rattle.ngc_dialect_reader.proofs.text.add_plain.Given as goal

abbrev pub invariant-loop-i : goal.invariant-loop-i
invariant-loop-i l = record {
  after : l.fn.from ≤ l.i;
  within : l.i ≤ length l.line;
  room : array_vec_len l.bytes ≤ l.i;
  text : l.bytes.items ++ text_from Outside (drop l.i l.line) ≡ l.initial.bytes.items ++ text_from Outside (drop l.fn.from l.fn.line);
  fault : (closed : Bool) (opened : ℕ) → text_fault closed Outside opened (l.i + 1) (drop l.i l.line)
      ≡ text_fault closed Outside opened (l.fn.from + 1) (drop l.fn.from l.fn.line);
}

abbrev pub decreases-loop-i : goal.decreases-loop-i
decreases-loop-i l = length l.line - l.i

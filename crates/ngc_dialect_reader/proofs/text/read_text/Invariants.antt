-- The text so far, and that of the rest; the rest has the same fault as the whole.
use Rattle.std.proofs.Common.{◌≡◌, ◌≤◌, ◌+◌, ◌-◌, ◌++◌, drop, length}
use Rattle.arrayvec.specs.ArrayVec.{array_vec_len}
use Rattle.ngc_dialect_reader.specs.Text.{text, text_from, text_fault, fault_in}
use Rattle.ngc_dialect_reader.proofs.text.read_text.Given as goal

abbrev pub invariant-loop-i : goal.invariant-loop-i
invariant-loop-i l = record {
  whole : l.bytes.items ++ text_from l.place (drop l.i l.line) ≡ text l.fn.line;
  fault : text_fault l.closed l.place l.opened (l.i + 1) (drop l.i l.line) ≡ fault_in l.fn.closed l.fn.line;
  room : array_vec_len l.bytes ≤ l.i;
  within : l.i ≤ length l.line;
}

abbrev pub decreases-loop-i : goal.decreases-loop-i
decreases-loop-i l = length l.line - l.i

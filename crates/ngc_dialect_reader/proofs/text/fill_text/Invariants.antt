-- The text so far, and that of the rest.
use Rattle.std.proofs.Common.{◌≡◌, ◌≤◌, ◌++◌, drop}
use Rattle.arrayvec.specs.ArrayVec.{array_vec_len}
use Rattle.ngc_dialect_reader.specs.Text.{text, text_from}
use Rattle.ngc_dialect_reader.proofs.text.fill_text.Given as goal

abbrev pub invariant-loop-i : goal.invariant-loop-i
invariant-loop-i l = record {
  whole : l.bytes.items ++ text_from l.place (drop l.i l.line) ≡ text l.fn.line;
  room : array_vec_len l.bytes ≤ l.i;
}

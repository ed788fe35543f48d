-- The text so far, and that of the rest; the same for the columns.
use Rattle.std.proofs.Common.{◌≡◌, ◌≤◌, ◌+◌, ◌++◌, take, drop}
use Rattle.ngc_line_reader.specs.Text.{text, text_from, columns, columns_from}
use Rattle.ngc_line_reader.proofs.text.fill_text.Given as goal

abbrev pub invariant-loop-i : goal.invariant-loop-i
invariant-loop-i l = record {
  whole : take l.length l.bytes ++ text_from l.place (drop l.i l.line) ≡ text l.fn.line;
  places : take l.length l.columns ++ columns_from l.place (l.i + 1) (drop l.i l.line) ≡ columns l.fn.line;
  room : l.length ≤ l.i;
}

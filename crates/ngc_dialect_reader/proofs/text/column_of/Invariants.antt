-- The rest has the column, and its text is counted.
use Rattle.std.proofs.Common.{◌≡◌, ◌+◌, length, drop}
use Rattle.ngc_dialect_reader.specs.Text.{text_from, column_from, column_in}
use Rattle.ngc_dialect_reader.proofs.text.column_of.Given as goal

abbrev pub invariant-loop-i : goal.invariant-loop-i
invariant-loop-i l = record {
  column : column_from l.place (l.i + 1) l.left (drop l.i l.line) ≡ column_in l.fn.line l.fn.left;
  after : l.after ≡ length (text_from l.place (drop l.i l.line));
}

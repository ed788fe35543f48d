use Rattle.std.proofs.Common.{◌≡◌, ◌++◌, take, drop}
use Rattle.ngc_file_lines.specs.Lines.{line_of, rest_after_line}
use Rattle.ngc_file_lines.proofs.line.split_line.Given as goal

abbrev pub invariant-loop-i : goal.invariant-loop-i
invariant-loop-i l = record {
  line : line_of l.bytes ≡ take l.i l.bytes ++ line_of (drop l.i l.bytes);
  afterwards : rest_after_line l.bytes ≡ rest_after_line (drop l.i l.bytes);
}

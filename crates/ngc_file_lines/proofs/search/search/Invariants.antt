use Rattle.std.proofs.Common.{◌≡◌, ◌+◌, ◌≤◌, length}
use Rattle.std.specs.Prelude.{option_map}
use Rattle.ngc_file_lines.specs.Lines.{lines_of}
use Rattle.ngc_file_lines.specs.Search.{line_from, key_line, numbered}
use Rattle.ngc_file_lines.proofs.search.search.Given as goal

abbrev pub invariant-loop-left : goal.invariant-loop-left
invariant-loop-left l = record {
  same : key_line l.header l.headers l.key l.bytes ≡ line_from l.header l.key (option_map numbered l.found) l.ahead l.number (lines_of l.left);
  number : l.number + length l.left ≤ length l.bytes + 1;
}

abbrev pub decreases-loop-left : goal.decreases-loop-left
decreases-loop-left l = length l.left

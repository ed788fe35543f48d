use Rattle.std.proofs.Common.{◌≡◌, ◌+◌, ◌≤◌, length}
use Rattle.ngc_setup_sheet.specs.Quoted.{quote_from, lines_of}
use Rattle.ngc_setup_sheet.proofs.quoted.add_quote_from.Given as goal

abbrev pub invariant-loop-left : goal.invariant-loop-left
invariant-loop-left l = record {
  chunk : l.chunk ≡ l.initial.chunk;
  same : quote_from l.header l.key l.headers 1 (lines_of l.bytes) ≡ quote_from l.header l.key l.ahead l.number (lines_of l.left);
  number : l.number + length l.left ≤ length l.bytes + 1;
}

abbrev pub decreases-loop-left : goal.decreases-loop-left
decreases-loop-left l = length l.left

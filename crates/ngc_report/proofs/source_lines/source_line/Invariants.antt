-- The line with the number is `left` lines further.
use Rattle.std.proofs.Common.{◌≡◌, length}
use Rattle.ngc_line_reader.specs.Program.{lines_of}
use Rattle.ngc_report.specs.Quotes.{bytes_with}
use Rattle.ngc_report.proofs.source_lines.source_line.Given as goal

abbrev pub invariant-loop-left : goal.invariant-loop-left
invariant-loop-left l = bytes_with l.left (lines_of l.rest) ≡ bytes_with l.number (lines_of l.bytes)

abbrev pub decreases-loop-left : goal.decreases-loop-left
decreases-loop-left l = length l.rest

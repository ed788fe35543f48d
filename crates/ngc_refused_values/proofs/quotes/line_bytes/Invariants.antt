-- No line so far has the number.
use Rattle.std.proofs.Common.{◌≡◌, take, None}
use Rattle.ngc_line_reader.specs.ProgramView.{text_in}
use Rattle.ngc_report.specs.Quotes.{line_with}
use Rattle.ngc_refused_values.proofs.quotes.line_bytes.Given as goal

abbrev pub invariant-loop-index : goal.invariant-loop-index
invariant-loop-index g l = line_with l.number (take l.index (text_in l.program).lines) ≡ None

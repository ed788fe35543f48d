use Rattle.std.proofs.Common.{◌≡◌, drop}
use Rattle.ngc_file_lines.specs.Lines.{unindented}
use Rattle.ngc_file_lines.proofs.line.unindented.Given as goal

abbrev pub invariant-loop-i : goal.invariant-loop-i
invariant-loop-i l = unindented l.line ≡ unindented (drop l.i l.line)

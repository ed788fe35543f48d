-- The lines so far, and those that are left of the text, are the program's.
use Rattle.std.proofs.Common.{◌≡◌, length, map}
use Rattle.ngc_line_reader.specs.Program.{split_lines}
use Rattle.ngc_dialect_execution.specs.Text.{lines_among, program_of}
use Rattle.ngc_dialect_execution.proofs.ProgramSteps.{after_lines}
use Rattle.ngc_dialect_execution.proofs.flow.program_lines.Given as goal

abbrev pub invariant-loop-rest : goal.invariant-loop-rest
invariant-loop-rest g l =
    after_lines (map (λ x. x.now) l.lines.items) (lines_among l.dialect l.before (split_lines l.rest)) ≡ program_of l.dialect l.text

abbrev pub decreases-loop-rest : goal.decreases-loop-rest
decreases-loop-rest g l = length l.rest

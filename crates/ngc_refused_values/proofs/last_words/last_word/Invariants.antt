-- The last word among the remaining lines, or else the one so far, is that of all lines.
use Rattle.std.proofs.Common.{drop}
use Rattle.ngc_line_reader.specs.ProgramView.{text_in}
use Rattle.ngc_refused_values.proofs.LastWordSteps.{SoFar}
use Rattle.ngc_refused_values.proofs.last_words.last_word.Given as goal

abbrev pub invariant-loop-index : goal.invariant-loop-index
invariant-loop-index g l = SoFar l.kind l.deletes l.number (text_in l.program).lines (drop l.index (text_in l.program).lines) l.last

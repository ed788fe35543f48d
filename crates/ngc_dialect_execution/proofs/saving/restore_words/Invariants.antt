-- The words that are left, after those executed, have the same result as all of them.
use Rattle.std.proofs.Common.{◌≡◌, length}
use Rattle.ngc_canonical.specs.Interpreter.{setup_of}
use Rattle.ngc_dialect_execution.specs.Taken.{words_restored}
use Rattle.ngc_dialect_execution.specs.Views.{between_of}
use Rattle.ngc_dialect_execution.proofs.saving.restore_words.Given as goal

abbrev pub invariant-loop-rest : goal.invariant-loop-rest
invariant-loop-rest g l =
    words_restored (setup_of l.machine l.tools) l.line l.rest (between_of l.interpreter)
    ≡ words_restored (setup_of l.machine l.tools) l.line l.fn.words (between_of l.fn.interpreter)

abbrev pub decreases-loop-rest : goal.decreases-loop-rest
decreases-loop-rest g l = length l.rest

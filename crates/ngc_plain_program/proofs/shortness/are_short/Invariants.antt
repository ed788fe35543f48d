-- The lines that are left are short if and only if all are.
use Rattle.std.proofs.Common.{◌≡◌, length}
use Rattle.std.specs.List.{AllByRecursion, list_all}
use Rattle.ngc_plain_laws.specs.Laws.{words_in}
use Rattle.ngc_plain_program.specs.Programs.{lines_of}
use Rattle.ngc_plain_text.specs.Limits.{AreValues, is_short}
use Rattle.ngc_plain_program.proofs.shortness.are_short.Given as goal

abbrev pub invariant-loop-rest : goal.invariant-loop-rest
invariant-loop-rest g l =
    (list_all is_short (words_in (lines_of l.rest)) ≡ list_all is_short (words_in (lines_of l.lines)))
    × (AllByRecursion AreValues (words_in (lines_of l.rest)) → AllByRecursion AreValues (words_in (lines_of l.lines)))

abbrev pub decreases-loop-rest : goal.decreases-loop-rest
decreases-loop-rest g l = length l.rest

-- No letter so far is on the line again.
use Rattle.std.proofs.Common.{◌≡◌, length}
use Rattle.ngc_dialect_rules.specs.Words.{repeated}
use Rattle.ngc_dialect_rules.proofs.word.repeated.Given as goal

abbrev pub invariant-loop-rest : goal.invariant-loop-rest
invariant-loop-rest l = repeated l.rest ≡ repeated l.words

abbrev pub decreases-loop-rest : goal.decreases-loop-rest
decreases-loop-rest l = length l.rest

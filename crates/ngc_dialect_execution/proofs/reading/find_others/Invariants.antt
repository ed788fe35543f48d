-- The words so far, and those that the flow leaves of the rest, are all that it leaves.
use Rattle.std.proofs.Common.{◌≡◌, ◌++◌, drop}
use Rattle.ngc_dialect_execution.specs.Flow.{others_in}
use Rattle.ngc_dialect_execution.proofs.reading.find_others.Given as goal

abbrev pub invariant-loop-word : goal.invariant-loop-word
invariant-loop-word g l = l.others.items ++ others_in l.calls (drop l.word-index l.words) ≡ others_in l.calls l.words

-- The words so far, and those of the remaining statements, are the words of all.
use Rattle.std.proofs.Common.{◌≡◌, ◌++◌, drop}
use Rattle.ngc_dialect_execution.specs.Taken.{words_of}
use Rattle.ngc_dialect_execution.proofs.reading.find_words.Given as goal

abbrev pub invariant-loop-statement : goal.invariant-loop-statement
invariant-loop-statement g l = l.words.items ++ words_of (drop l.statement-index l.statements) ≡ words_of l.statements

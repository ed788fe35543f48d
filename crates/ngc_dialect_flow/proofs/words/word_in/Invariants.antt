-- The remaining statements have the same result as all of them.
use Rattle.std.proofs.Common.{◌≡◌, drop}
use Rattle.ngc_dialect_flow.specs.Words.{word_in}
use Rattle.ngc_dialect_flow.proofs.words.word_in.Given as goal

abbrev pub invariant-loop-statement : goal.invariant-loop-statement
invariant-loop-statement l = record { rest : word_in l.letter (drop l.statement-index l.statements) ≡ word_in l.letter l.statements }

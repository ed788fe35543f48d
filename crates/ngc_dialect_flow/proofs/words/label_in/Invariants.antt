-- The remaining statements have the same result as all of them.
use Rattle.std.proofs.Common.{◌≡◌, drop}
use Rattle.ngc_dialect_flow.specs.Words.{label_in}
use Rattle.ngc_dialect_flow.proofs.words.label_in.Given as goal

abbrev pub invariant-loop-statement : goal.invariant-loop-statement
invariant-loop-statement l = record { rest : label_in (drop l.statement-index l.statements) ≡ label_in l.statements }

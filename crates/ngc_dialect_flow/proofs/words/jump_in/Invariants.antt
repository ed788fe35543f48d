-- The remaining statements have the same result as all of them.
use Rattle.std.proofs.Common.{◌≡◌, drop}
use Rattle.ngc_dialect_flow.specs.Words.{jump_in}
use Rattle.ngc_dialect_flow.proofs.words.jump_in.Given as goal

abbrev pub invariant-loop-statement : goal.invariant-loop-statement
invariant-loop-statement l = record { rest : jump_in (drop l.statement-index l.statements) ≡ jump_in l.statements }

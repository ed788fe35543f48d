-- The remaining statements have the same result as all of them.
use Rattle.std.proofs.Common.{◌≡◌, drop}
use Rattle.ngc_dialect_flow.specs.Words.{loop_holds}
use Rattle.ngc_dialect_flow.proofs.words.loop_holds.Given as goal

abbrev pub invariant-loop-statement : goal.invariant-loop-statement
invariant-loop-statement l = record { rest : loop_holds (drop l.statement-index l.statements) ≡ loop_holds l.statements }

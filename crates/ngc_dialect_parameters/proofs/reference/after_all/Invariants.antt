-- The remaining statements, after those done, have the same result as all of them.
use Rattle.std.proofs.Common.{◌≡◌, drop}
use Rattle.ngc_dialect_parameters.specs.Settings.{after_all}
use Rattle.ngc_dialect_parameters.proofs.reference.after_all.Given as goal

abbrev pub invariant-loop-statement : goal.invariant-loop-statement
invariant-loop-statement l = after_all (drop l.statement-index l.statements) l.index l.value ≡ after_all l.fn.statements l.fn.index l.fn.before

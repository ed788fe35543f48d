-- The remaining statements, after those made, have the same result as all of them.
use Rattle.std.proofs.Common.{◌≡◌, drop}
use Rattle.ngc_dialect_parameters.specs.Stored.{stored_in}
use Rattle.ngc_dialect_parameters.specs.Storing.{set_by_all}
use Rattle.ngc_dialect_parameters.proofs.parameters.Parameters.apply.Given as goal

abbrev pub invariant-loop-statement : goal.invariant-loop-statement
invariant-loop-statement g l =
    set_by_all l.line.text.items (drop l.statement-index l.statement-items) (stored_in l.self)
    ≡ set_by_all l.line.text.items l.statement-items (stored_in l.fn.self)

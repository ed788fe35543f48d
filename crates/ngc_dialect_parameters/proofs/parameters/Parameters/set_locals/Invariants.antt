-- The parameters from 1 up to the index are set, and the others are as they were.
use Rattle.std.proofs.Common.{◌≡◌}
use Rattle.ngc_dialect_parameters.specs.Stored.{stored_in}
use Rattle.ngc_dialect_parameters.proofs.StoredLaws.{with_first}
use Rattle.ngc_dialect_parameters.proofs.parameters.Parameters.set_locals.Given as goal

abbrev pub invariant-loop-index : goal.invariant-loop-index
invariant-loop-index g l = stored_in l.self ≡ with_first l.index l.values (stored_in l.fn.self)

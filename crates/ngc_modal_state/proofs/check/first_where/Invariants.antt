-- The remaining rows have the same answer as all of them.
use Rattle.std.proofs.Common.{◌≡◌, drop}
use Rattle.ngc_modal_state.specs.Tables.{first_where}
use Rattle.ngc_modal_state.proofs.check.first_where.Given as goal

abbrev pub invariant-loop-holds : goal.invariant-loop-holds
invariant-loop-holds g l = first_where (drop l.holds-index l.rows) ≡ first_where l.rows

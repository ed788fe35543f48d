-- The values so far are those of the parameters from 1 on.
use Rattle.std.proofs.Common.{◌≡◌, ◌<◌, ◌+◌, ℕ, length, get_or, None}
use Rattle.ngc_dialect_parameters.specs.Stored.{number_in}
use Rattle.ngc_dialect_parameters.proofs.parameters.Parameters.saved.Given as goal

abbrev pub invariant-loop-index : goal.invariant-loop-index
invariant-loop-index g l = record {
  count : length l.saved.items ≡ l.index;
  values : (n : ℕ) → n < l.index → get_or l.saved.items n None ≡ number_in l.self (n + 1);
}

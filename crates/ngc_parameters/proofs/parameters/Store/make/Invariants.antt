-- The remaining changes, after those made, have the same result as all of them.
use Rattle.std.proofs.Common.{◌≡◌, ℕ, drop}
use Rattle.ngc_parameters.specs.Meaning.{after_settings}
use Rattle.ngc_parameters.specs.Stored.{change_pairs, parameters_of}
use Rattle.ngc_parameters.proofs.parameters.Store.make.Given as goal

abbrev pub invariant-loop-change : goal.invariant-loop-change
invariant-loop-change g l = record {
  values : (k : ℕ) → after_settings (change_pairs (drop l.change-index l.change-items)) (parameters_of l.self) k
      ≡ after_settings (change_pairs l.change-items) (parameters_of l.initial.self) k;
}

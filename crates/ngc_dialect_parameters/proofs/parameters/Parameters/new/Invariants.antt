-- None of the parameters so far is set.
use Rattle.std.proofs.Common.{◌≡◌, ◌≤◌, ◌-◌, vec_len, ℕ, get_or, None}
use Rattle.ngc_dialect_parameters.proofs.parameters.Parameters.new.Given as goal

abbrev pub invariant-loop-numbers : goal.invariant-loop-numbers
invariant-loop-numbers g l = record {
  unset : (n : ℕ) → get_or l.numbers.items n None ≡ None;
  count : vec_len l.numbers ≤ 6000;
}

abbrev pub decreases-loop-numbers : goal.decreases-loop-numbers
decreases-loop-numbers g l = 6000 - vec_len l.numbers

-- No operator begins at the index or later.
use Rattle.std.proofs.Common.{◌≡◌, ◌≤◌, length, drop}
use Rattle.ngc_quantities.specs.Sums.{last_operator}
use Rattle.ngc_quantities.proofs.sum.last_operator.Given as goal

abbrev pub invariant-loop-index : goal.invariant-loop-index
invariant-loop-index l = record {
  none : last_operator (drop l.index l.text) ≡ 0;
  within : l.index ≤ length l.text;
}

abbrev pub decreases-loop-index : goal.decreases-loop-index
decreases-loop-index l = l.index

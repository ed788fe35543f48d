-- At no smaller width do so few cells cover the block.
use Rattle.std.proofs.Common.{ℕ, ◌<◌}
use Rattle.std.specs.Prelude.{IsTrue}
use Rattle.ngc_stock_report.specs.Placed.{is_covered, half_of}
use Rattle.ngc_stock_report.proofs.cells.least_width.Given as goal

abbrev pub invariant-loop-number : goal.invariant-loop-number
invariant-loop-number l = (k : ℕ) → 0 < k → k < l.number → ¬ (IsTrue (is_covered l.most (half_of k) l.block))

use Rattle.std.proofs.Common.{◌≡◌, ℕ, ◌<◌, ◌≤◌, get_or}
use Rattle.ngc_cells.specs.Grids.{IsFoundIn}
use Rattle.ngc_cells.proofs.cells.peak_in.Given as goal

abbrev pub invariant-loop-k : goal.invariant-loop-k
invariant-loop-k l = record {
  most : (j : ℕ) → l.first ≤ j → j < l.k → get_or l.heights j 0 ≤ l.best.height;
  least : l.fn.peak.height ≤ l.best.height;
  same : l.best.height ≤ l.fn.peak.height → l.best ≡ l.fn.peak;
  one : l.fn.peak.height < l.best.height → IsFoundIn l.heights l.first l.end l.best;
}

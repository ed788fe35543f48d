use Rattle.std.proofs.Common.{ℕ, ◌*◌, ◌<◌, ◌≤◌, get_or}
use Rattle.ngc_cells.specs.Stretches.{IsNear}
use Rattle.ngc_cells.specs.Grids.{centre, IsNearPeak}
use Rattle.ngc_cells.proofs.cells.highest_above.Given as goal

abbrev pub invariant-loop-row : goal.invariant-loop-row
invariant-loop-row l = record {
  within : l.row ≤ l.grid.rows;
  most : (k : ℕ) → k < l.row * l.grid.columns → IsNear l.stretch l.radius (centre l.grid k) → get_or l.heights k 0 ≤ l.peak.height;
  least : l.level ≤ l.peak.height;
  one : l.level < l.peak.height → IsNearPeak l.grid l.stretch l.radius l.heights (l.row * l.grid.columns) l.peak;
}

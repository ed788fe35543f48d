use Rattle.std.proofs.Common.{◌≡◌, ℕ, ◌*◌, ◌<◌, ◌≤◌, get_or}
use Rattle.ngc_cells.specs.Grids.{IsLowered}
use Rattle.ngc_cells.proofs.cells.lower.Given as goal

abbrev pub invariant-loop-row : goal.invariant-loop-row
invariant-loop-row l = record {
  done : (k : ℕ) → k < l.row * l.grid.columns → IsLowered l.grid l.stretch l.radius l.level k (get_or l.initial.heights k 0) (get_or l.heights k 0);
  rest : (k : ℕ) → l.row * l.grid.columns ≤ k → get_or l.heights k 0 ≡ get_or l.initial.heights k 0;
}

use Rattle.std.proofs.Common.{◌≡◌, ℕ, ◌<◌, ◌≤◌, get_or, min}
use Rattle.ngc_cells.proofs.cells.lower_cells.Given as goal

abbrev pub invariant-loop-k : goal.invariant-loop-k
invariant-loop-k l = record {
  end : l.first < l.k → l.k ≤ l.end;
  inside : (j : ℕ) → l.first ≤ j → j < l.k → get_or l.heights j 0 ≡ min (get_or l.initial.heights j 0) l.level;
  before : (j : ℕ) → j < l.first → get_or l.heights j 0 ≡ get_or l.initial.heights j 0;
  after : (j : ℕ) → l.k ≤ j → get_or l.heights j 0 ≡ get_or l.initial.heights j 0;
}

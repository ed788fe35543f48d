-- Marking cells, one motion after another. A cell that is marked is lowered to 0.
use Rattle.std.specs.Prelude.{◌≡◌, ℕ, ◌<◌, List, length, slice_index}
use Rattle.ngc_cells.specs.declared.grid.Grid.{Grid}
use Rattle.ngc_material.specs.declared.walk.Found.{Found}
use Rattle.ngc_stock_report.specs.Marks.{IsMarkedByAny}

pub record IsLevel (g : Grid) (found : List Found) (k old new : ℕ) : Type 0 where
  pub near : IsMarkedByAny g found k → new ≡ 0
  pub other : ¬ (IsMarkedByAny g found k) → new ≡ old

pub record AreLevels (g : Grid) (found : List Found) (old new : List ℕ) : Type 0 where
  pub count : length new ≡ length old
  pub each : (k : ℕ) → k < length old → IsLevel g found k (slice_index old k) (slice_index new k)

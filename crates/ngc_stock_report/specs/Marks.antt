-- Which cells of a map are marked. Our own.
use Rattle.std.specs.Prelude.{◌≡◌, ℕ, ◌*◌, ◌<◌, ◌⊎◌, min, List, [], ◌∷◌, length, get_or, Bool, true, false}
use Rattle.ngc_cells.specs.declared.grid.Grid.{Grid}
use Rattle.ngc_cells.specs.declared.stretch.Spot.{Spot}
use Rattle.ngc_cells.specs.declared.stretch.Stretch.{Stretch}
use Rattle.ngc_cells.specs.Stretches.{RADIUS_LIMIT, IsNear, IsSpot}
use Rattle.ngc_cells.specs.Grids.{centre}
use Rattle.ngc_material.specs.declared.walk.Found.{Found}
use Rattle.ngc_stock_report.specs.Walked.{WalkData}

-- two and a half cells, but at most a metre: one cell alone would hardly be seen
abbrev pub mark_radius : Grid → ℕ
mark_radius g = min RADIUS_LIMIT (5 * g.half)

abbrev pub at_spot : Spot → Stretch
at_spot p = record { start = p; end = p; parts = 1; part = 0 }

-- the centre of cell k is near the place where a motion may touch material
abbrev pub IsMarkedBy : Grid → Found → ℕ → Type 0
IsMarkedBy g f k = IsSpot f.touch.place × IsNear (at_spot f.touch.place) (mark_radius g) (centre g k)

-- where one of these motions may
abbrev pub IsMarkedByAny : Grid → List Found → ℕ → Type 0
IsMarkedByAny g [] k = ⊥
IsMarkedByAny g (f ∷ fs) k = IsMarkedBy g f k ⊎ IsMarkedByAny g fs k

abbrev pub IsMarked : WalkData → ℕ → Type 0
IsMarked w k = IsMarkedByAny w.stock.grid w.found k ⊎ IsMarkedByAny w.stock.grid w.feeds k

pub record IsMark (w : WalkData) (k : ℕ) (mark : Bool) : Type 0 where
  pub near : IsMarked w k → mark ≡ true
  pub other : ¬ (IsMarked w k) → mark ≡ false

-- the cells near which a traverse or a feed may touch material are marked, and no others
pub record AreMarks (w : WalkData) (marks : List Bool) : Type 0 where
  pub count : length marks ≡ w.stock.grid.columns * w.stock.grid.rows
  pub each : (k : ℕ) → k < length marks → IsMark w k (get_or marks k false)

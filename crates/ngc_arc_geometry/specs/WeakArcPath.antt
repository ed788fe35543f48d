-- Paths of unit moves that stay in an arc's swept box. Our own. A straight chord is one.
use Rattle.std.specs.Prelude.{◌≡◌, ℕ, ◌+◌, ◌<◌, ◌≤◌, ℤ, List, length}
use Rattle.ngc_fixed_length.specs.declared.points.StepPos.{StepPos}
use Rattle.ngc_fixed_length.specs.Boxes.{IsIn}
use Rattle.ngc_fixed_length.specs.Grid.{grid}
use Rattle.ngc_fixed_length.specs.LinePath.{point, IsUnitMove}
use Rattle.ngc_arc_geometry.specs.Shape.{ArcShape}
use Rattle.ngc_arc_geometry.specs.Swept.{swept_box}

-- a list of n moves from the grid point of the start to that of the end, all in the swept box
pub record IsWeakArcOf (step : ℤ) (a : ArcShape) (n : ℕ) (path : List StepPos) : Type 0 where
  pub count : length path ≡ n + 1
  pub starts : point path 0 ≡ grid step a.start
  pub ends : point path n ≡ grid step a.end
  pub unit_moves : (k : ℕ) → k < n → IsUnitMove (point path k) (point path (k + 1))
  pub inside : (k : ℕ) → k ≤ n → IsIn (swept_box step a) (point path k)

abbrev pub IsWeakArcPath : ℤ → ArcShape → List StepPos → Type 0
IsWeakArcPath step a path = (n : ℕ) × IsWeakArcOf step a n path

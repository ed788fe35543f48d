-- Paths of unit moves that follow an arc (NISTIR 6556, 3.5.3). The tolerances are our own.
use Rattle.std.specs.Prelude.{ℕ, ◌+◌, ◌*◌, ◌<◌, ◌≤◌, ℤ, unsigned_abs, List}
use Rattle.ngc_fixed_length.specs.declared.points.StepPos.{StepPos}
use Rattle.ngc_fixed_length.specs.Grid.{distance}
use Rattle.ngc_fixed_length.specs.LinePath.{point, FollowsLine}
use Rattle.ngc_fixed_length.specs.Places.{height}
use Rattle.ngc_arc_geometry.specs.Shape.{ArcShape}
use Rattle.ngc_arc_geometry.specs.Radii.{outer_radius}
use Rattle.ngc_arc_geometry.specs.Sector.{extremes}
use Rattle.ngc_arc_geometry.specs.Swept.{start_height, end_height}
use Rattle.ngc_arc_geometry.specs.WeakArcPath.{IsWeakArcOf, IsWeakArcPath}
use Rattle.ngc_arc_geometry.specs.GridPlaces.{seen, height_of}
use Rattle.ngc_arc_geometry.specs.ArcBand.{leeway, spread, IsInBand}
use Rattle.ngc_arc_geometry.specs.ArcSides.{IsBetweenEnds}
use Rattle.ngc_arc_geometry.specs.ArcOrder.{Passes, GoesOn}

-- a list of n moves that follows the arc, from the grid point of the start to that of the end, in
-- the swept box
pub record IsArcOf (step : ℤ) (a : ArcShape) (n : ℕ) (path : List StepPos) : Type 0 where
  -- unit moves from end to end, inside the box
  pub weak : IsWeakArcOf step a n path
  -- each point is near the circles
  pub band : (k : ℕ) → k ≤ n → IsInBand a (leeway step a) (seen step a (point path k))
  -- each point is in the sector, or near an end
  pub sector : (k : ℕ) → k ≤ n →
      IsBetweenEnds a (leeway step a + spread a) (seen step a (point path k))
  -- the path passes the sector's quadrant points at the outer radius, in the arc's order
  pub order : Passes (λ k. seen step a (point path k)) n
      (leeway step a + unsigned_abs step + spread a) 0 (extremes a)
  -- away from the ends no move turns back
  pub onward : (k : ℕ) → k < n →
      GoesOn a (4 * unsigned_abs step + spread a) (seen step a (point path k))
      (seen step a (point path (k + 1)))
  -- the height follows a straight line from start to end, as an axis of a straight path does
  pub rises : FollowsLine step n (height a.plane a.start) (height a.plane a.end)
      (λ k. height_of a (point path k))
  -- the moves are at most what the height takes and somewhat more than a circle takes
  pub short : n * unsigned_abs step ≤
      distance (start_height step a) (end_height step a) * unsigned_abs step
      + 8 * outer_radius a + 32 * spread a + 64 * unsigned_abs step

abbrev pub IsArcPath : ℤ → ArcShape → List StepPos → Type 0
IsArcPath step a path = (n : ℕ) × IsArcOf step a n path

-- a path that follows an arc stays in the arc's swept box
abbrev pub FollowingIsWeak : Type 0
FollowingIsWeak = (step : ℤ) (a : ArcShape) (path : List StepPos) → IsArcPath step a path →
    IsWeakArcPath step a path

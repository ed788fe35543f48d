-- The distance between a path and its arc's circles. Our own.
use Rattle.std.specs.Prelude.{ℕ, ◌+◌, ◌-◌, ◌*◌, ◌≤◌, nat_le, ℤ, unsigned_abs, if◌then◌else◌}
use Rattle.ngc_fixed_length.specs.declared.points.Point2.{Point2}
use Rattle.ngc_arc_geometry.specs.Shape.{ArcShape}
use Rattle.ngc_arc_geometry.specs.Radii.{squared_distance, inner_radius, outer_radius}

-- how far a path may leave its arc: one step if the inner radius is at least eight steps, else four
abbrev pub leeway : ℤ → ArcShape → ℕ
leeway step a =
    (if nat_le (8 * unsigned_abs step) (inner_radius a) then unsigned_abs step
    else 4 * unsigned_abs step)

-- the difference of the rounded radii at start and end
abbrev pub spread : ArcShape → ℕ
spread a = outer_radius a - inner_radius a

-- two points of the plane are at most d apart
abbrev pub IsWithin : ℕ → Point2 → Point2 → Type 0
IsWithin d p q = squared_distance p q ≤ d * d

-- the distance from the centre is at least the inner radius less w, and at most the outer radius
-- plus w; if the inner radius is below w, there is no lower bound
pub record IsInBand (a : ArcShape) (w : ℕ) (p : Point2) : Type 0 where
  pub inner : (inner_radius a - w) * (inner_radius a - w) ≤ squared_distance a.centre p
  pub outer : squared_distance a.centre p ≤ (outer_radius a + w) * (outer_radius a + w)

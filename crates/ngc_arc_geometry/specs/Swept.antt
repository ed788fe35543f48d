-- The box of grid points that contains all of an arc. Our own.
use Rattle.std.specs.Prelude.{◌-◌, ℤ, pos, ◌+ℤ◌, ◌-ℤ◌, ◌*ℤ◌, List, ◌∷◌, fold, map}
use Rattle.std.specs.Int.{int_min, int_max}
use Rattle.ngc_fixed_length.specs.Boxes.{grid_above, grid_below}
use Rattle.ngc_fixed_length.specs.Places.{height}
use Rattle.ngc_fixed_length.specs.Rounding.{nearest}
use Rattle.ngc_fixed_length.specs.declared.modes.Plane.{Plane}
use Rattle.ngc_fixed_length.specs.declared.modes.Plane.TheVariants.{XY, ZX, YZ}
use Rattle.ngc_fixed_length.specs.declared.points.GridBox.{GridBox}
use Rattle.ngc_fixed_length.specs.declared.points.Point2.{Point2}
use Rattle.ngc_fixed_length.specs.declared.points.StepPos.{StepPos}
use Rattle.ngc_arc_geometry.specs.Shape.{ArcShape, start_of, end_of}
use Rattle.ngc_arc_geometry.specs.Radii.{inner_radius, outer_radius}
use Rattle.ngc_arc_geometry.specs.Sector.{extremes}

-- two steps and the difference of the radii
abbrev pub margin : ℤ → ArcShape → ℤ
margin step a = pos 2 *ℤ step +ℤ pos (outer_radius a - inner_radius a)

-- the least and the greatest coordinate of some points
abbrev pub least : (Point2 → ℤ) → Point2 → List Point2 → ℤ
least f p ps = fold int_min (f p) (map f ps)

abbrev pub greatest : (Point2 → ℤ) → Point2 → List Point2 → ℤ
greatest f p ps = fold int_max (f p) (map f ps)

-- both ends and the quadrant points
abbrev pub other_points : ArcShape → List Point2
other_points a = end_of a ∷ extremes a

-- along an axis of the plane: the grid points inside the span of the points' coordinates, with the
-- margin on both sides
abbrev pub low_at : ℤ → ArcShape → (Point2 → ℤ) → ℤ
low_at step a f = grid_above step (least f (start_of a) (other_points a) -ℤ margin step a)

abbrev pub high_at : ℤ → ArcShape → (Point2 → ℤ) → ℤ
high_at step a f = grid_below step (greatest f (start_of a) (other_points a) +ℤ margin step a)

-- along the third axis: the grid points of the ends' heights
abbrev pub start_height : ℤ → ArcShape → ℤ
start_height step a = nearest (height a.plane a.start) step

abbrev pub end_height : ℤ → ArcShape → ℤ
end_height step a = nearest (height a.plane a.end) step

abbrev pub grid_at : Plane → ℤ → ℤ → ℤ → StepPos
grid_at XY u v w = record { x = u; y = v; z = w }
grid_at ZX u v w = record { x = v; y = w; z = u }
grid_at YZ u v w = record { x = w; y = u; z = v }

-- the lowest and the highest corner of the swept box
abbrev pub swept_low : ℤ → ArcShape → StepPos
swept_low step a =
    grid_at a.plane (low_at step a (λ p. p.u)) (low_at step a (λ p. p.v))
    (int_min (start_height step a) (end_height step a))

abbrev pub swept_high : ℤ → ArcShape → StepPos
swept_high step a =
    grid_at a.plane (high_at step a (λ p. p.u)) (high_at step a (λ p. p.v))
    (int_max (start_height step a) (end_height step a))

abbrev pub swept_box : ℤ → ArcShape → GridBox
swept_box step a = record { low = swept_low step a; high = swept_high step a }

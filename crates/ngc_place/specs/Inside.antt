-- The stored form of points and lines, the corners of the box of an arc, the tests of boxes, and
-- the growth of intervals. Our own.
use Rattle.std.specs.Prelude.{◌≡◌, ℕ, ◌+◌, ◌*◌, ◌/◌, ◌^◌, ◌≤◌, unsigned_abs, ℤ, pos, ◌+ℤ◌, ◌-ℤ◌}
use Rattle.std.specs.Prelude.{Option, Bool, true}
use Rattle.std.specs.List.{find}
use Rattle.std.specs.Option.{is_some}
use Rattle.ngc_fixed_length.specs.declared.modes.Plane.{Plane}
use Rattle.ngc_fixed_length.specs.declared.modes.Plane.TheVariants.{XY, ZX, YZ}
use Rattle.ngc_fixed_length.specs.declared.points.GridBox.{GridBox}
use Rattle.ngc_fixed_length.specs.declared.points.Point2.{Point2}
use Rattle.ngc_fixed_length.specs.declared.points.Point3.{Point3}
use Rattle.ngc_fixed_length.specs.declared.points.StepPos.{StepPos}
use Rattle.ngc_arc_geometry.specs.Shape.{ArcShape, start_of}
use Rattle.ngc_arc_geometry.specs.Swept.{margin, least, greatest, other_points, low_at, high_at}
use Rattle.ngc_arc_geometry.specs.Swept.{swept_low, swept_high, swept_box}
use Rattle.ngc_machine_files.specs.Machine.{MachineFile}
use Rattle.ngc_machine_files.specs.declared.tools.Tool.{Tool}
use Rattle.ngc_collision.specs.declared.solid.Place.{Place}
use Rattle.ngc_place.specs.declared.straight.Cuts.{Cuts}
use Rattle.ngc_place.specs.declared.round.PlaneAxis.{PlaneAxis}
use Rattle.ngc_place.specs.declared.round.PlaneAxis.TheVariants.{U, V}
use Rattle.ngc_place.specs.declared.round.Reach.{Reach}
use Rattle.ngc_place.specs.declared.interval.Interval.{Interval}
use Rattle.ngc_place.specs.declared.interval.Side.{Side}
use Rattle.ngc_place.specs.declared.interval.Side.TheVariants.{Above, Below}
use Rattle.ngc_place.specs.Shifts.{SHIFT_LIMIT, arc_shifted}
use Rattle.ngc_place.specs.Holds.{over, is_clear, pieces_clear}
use Rattle.ngc_certificate_text.specs.Certificate.{WHOLE}
use Rattle.ngc_certificate.specs.DerivedBox.{line_box}
use Rattle.ngc_certificate.specs.Made.{tries}

-- the greatest size of a shifted point's coordinate, in nanometres: a length, and the longest shift
-- with the longest step
abbrev pub SHIFTED_LIMIT : ℕ
SHIFTED_LIMIT = 300000000000

pub record IsNear (p : Place) : Type 0 where
  pub x : unsigned_abs p.x ≤ SHIFTED_LIMIT
  pub y : unsigned_abs p.y ≤ SHIFTED_LIMIT
  pub z : unsigned_abs p.z ≤ SHIFTED_LIMIT

-- both cuts lie on the line
pub record AreOnLine (cuts : Cuts) : Type 0 where
  pub from : cuts.from ≤ WHOLE
  pub to : cuts.to ≤ WHOLE

-- ---- arcs; the names keep the prover from computing radii

-- a point's coordinate along an axis of a plane
abbrev pub along : PlaneAxis → Point2 → ℤ
along U p = p.u
along V p = p.v

-- a shift along an axis of a plane, in steps
abbrev pub steps_along : Plane → PlaneAxis → StepPos → ℤ
steps_along XY U n = n.x
steps_along ZX U n = n.z
steps_along YZ U n = n.y
steps_along XY V n = n.y
steps_along ZX V n = n.x
steps_along YZ V n = n.z

-- the coordinate of a grid point on the axis perpendicular to a plane
abbrev pub step_height : Plane → StepPos → ℤ
step_height XY p = p.z
step_height ZX p = p.y
step_height YZ p = p.x

-- the least and the greatest coordinate of the ends and quadrant points of an arc
unfoldable pub least_of : PlaneAxis → ArcShape → ℤ
least_of axis a = least (along axis) (start_of a) (other_points a)

unfoldable pub greatest_of : PlaneAxis → ArcShape → ℤ
greatest_of axis a = greatest (along axis) (start_of a) (other_points a)

unfoldable pub margin_of : ℤ → ArcShape → ℤ
margin_of step a = margin step a

-- what is kept of an arc: these coordinates, and its margin
abbrev pub least_in : PlaneAxis → Reach → ℤ
least_in U r = r.least_u
least_in V r = r.least_v

abbrev pub greatest_in : PlaneAxis → Reach → ℤ
greatest_in U r = r.greatest_u
greatest_in V r = r.greatest_v

pub record IsReach (step : ℤ) (a : ArcShape) (r : Reach) : Type 0 where
  pub least : (axis : PlaneAxis) → least_in axis r ≡ least_of axis a
  pub greatest : (axis : PlaneAxis) → greatest_in axis r ≡ greatest_of axis a
  pub margin : r.margin ≡ margin_of step a
  pub least_size : (axis : PlaneAxis) → unsigned_abs (least_in axis r) ≤ 10 ^ 11
  pub greatest_size : (axis : PlaneAxis) → unsigned_abs (greatest_in axis r) ≤ 10 ^ 11
  pub margin_size : unsigned_abs r.margin ≤ 10 ^ 11

-- the corners of the box of an arc that is shifted, along an axis of its plane
unfoldable pub first_at : ℤ → StepPos → PlaneAxis → ArcShape → ℤ
first_at step n axis a = low_at step (arc_shifted step n true a) (along axis)

unfoldable pub last_at : ℤ → StepPos → PlaneAxis → ArcShape → ℤ
last_at step n axis a = high_at step (arc_shifted step n true a) (along axis)

-- the corners of the box of an arc that moves with the origin or not
unfoldable pub low_corner : ℤ → StepPos → Bool → ArcShape → StepPos
low_corner step n moves a = swept_low step (arc_shifted step n moves a)

unfoldable pub high_corner : ℤ → StepPos → Bool → ArcShape → StepPos
high_corner step n moves a = swept_high step (arc_shifted step n moves a)

-- ---- tests of boxes

-- all points of a box are clear
unfoldable pub box_clear : MachineFile → Option Tool → GridBox → Bool
box_clear machine tool b = is_clear machine tool b

-- piece k + 1 of a line in c pieces is clear; at the lowest shift the line goes from p to q, and at
-- the highest from u to v
unfoldable pub piece_clear : MachineFile → Option Tool → Point3 → Point3 → Point3 → Point3 → ℕ →
    ℕ → Bool
piece_clear machine tool p q u v c k =
    is_clear machine tool
    (over (line_box machine.step p q (WHOLE * k / c) (WHOLE * (k + 1) / c))
    (line_box machine.step u v (WHOLE * k / c) (WHOLE * (k + 1) / c)))

-- a line is clear in one of the numbers of pieces that are tried
unfoldable pub line_clear : MachineFile → ℕ → Option Tool → Point3 → Point3 → Point3 → Point3 →
    Bool
line_clear machine most tool p q u v =
    is_some (find (λ c. pieces_clear machine tool p q u v c 0 c) (tries most))

-- an arc is clear undivided
unfoldable pub arc_clear : MachineFile → Option Tool → GridBox → Bool → ArcShape → Bool
arc_clear machine tool shifts moves a =
    is_clear machine tool
    (over (swept_box machine.step (arc_shifted machine.step shifts.low moves a))
    (swept_box machine.step (arc_shifted machine.step shifts.high moves a)))

-- ---- intervals

-- the number of steps from the end of an interval on one side to the limit of shifts
abbrev pub steps_left : Side → Interval → ℕ
steps_left Above i = unsigned_abs (pos SHIFT_LIMIT -ℤ i.to)
steps_left Below i = unsigned_abs (i.from +ℤ pos SHIFT_LIMIT)

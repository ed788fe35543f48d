-- The box round an arc's ends and quadrant points, in nanometres. Our own.
use Rattle.std.specs.Prelude.{ℕ, ℤ, pos, ◌+ℤ◌, ◌-ℤ◌, ◌≤ℤ◌}
use Rattle.ngc_fixed_length.specs.declared.points.Point2.{Point2}
use Rattle.ngc_arc_geometry.specs.Shape.{ArcShape, start_of}
use Rattle.ngc_arc_geometry.specs.Swept.{least, greatest, other_points}

abbrev pub first_of : Point2 → ℤ
first_of p = p.u

abbrev pub second_of : Point2 → ℤ
second_of p = p.v

-- a point of the plane in that box, grown by m on each side
pub record IsNearHull (a : ArcShape) (m : ℕ) (p : Point2) : Type 0 where
  pub low_u : (least first_of (start_of a) (other_points a) -ℤ pos m) ≤ℤ p.u
  pub high_u : p.u ≤ℤ (greatest first_of (start_of a) (other_points a) +ℤ pos m)
  pub low_v : (least second_of (start_of a) (other_points a) -ℤ pos m) ≤ℤ p.v
  pub high_v : p.v ≤ℤ (greatest second_of (start_of a) (other_points a) +ℤ pos m)

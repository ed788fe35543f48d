-- Arcs (NISTIR 6556, 3.5.3), independent of the format in which they are written.
use Rattle.std.specs.Prelude.{ℕ, ◌≤◌, unsigned_abs}
use Rattle.ngc_fixed_length.specs.declared.modes.Plane.{Plane}
use Rattle.ngc_fixed_length.specs.declared.modes.Turn.{Turn}
use Rattle.ngc_fixed_length.specs.declared.points.Point2.{Point2}
use Rattle.ngc_fixed_length.specs.declared.points.Point3.{Point3}
use Rattle.ngc_fixed_length.specs.Places.{in_plane}

-- an arc in the plane about its centre; it is a helix if the ends differ in height
pub record ArcShape : Type 0 where
  pub plane : Plane
  pub turn : Turn
  pub start : Point3
  pub end : Point3
  pub centre : Point2

-- start and end in the plane
abbrev pub start_of : ArcShape → Point2
start_of a = in_plane a.plane a.start

abbrev pub end_of : ArcShape → Point2
end_of a = in_plane a.plane a.end

-- the greatest coordinate of an end on each axis, 90 metres: ten less than the limit of lengths, so
-- that all points of an arc are lengths
abbrev pub END_LIMIT : ℕ
END_LIMIT = 90000000000

pub record IsNear (p : Point3) : Type 0 where
  pub x : unsigned_abs p.x ≤ END_LIMIT
  pub y : unsigned_abs p.y ≤ END_LIMIT
  pub z : unsigned_abs p.z ≤ END_LIMIT

-- Vectors in a plane, and their range. Our own.
use Rattle.std.specs.Prelude.{◌≤◌, unsigned_abs}
use Rattle.ngc_fixed_length.specs.declared.points.Point2.{Point2}
use Rattle.ngc_picture_shapes.specs.declared.helix.Heading.{Heading}

abbrev pub way_of : Heading → Point2
way_of h = record { u = h.u; v = h.v }

-- in nanometres: the vector from the centre to a point, and four of them together
pub record IsShort (h : Heading) : Type 0 where
  pub u : unsigned_abs h.u ≤ 200000000000
  pub v : unsigned_abs h.v ≤ 200000000000

pub record IsReached (h : Heading) : Type 0 where
  pub u : unsigned_abs h.u ≤ 800000000000
  pub v : unsigned_abs h.v ≤ 800000000000

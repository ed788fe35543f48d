-- Points, and their coordinates in a plane (NISTIR 6556, 2.1.1 and 3.5.6: G17, G18, G19).
use Rattle.std.specs.Prelude.{ℤ, pos, ◌+ℤ◌, ◌-ℤ◌, ◌*ℤ◌}
use Rattle.ngc_fixed_length.specs.declared.modes.Plane.{Plane}
use Rattle.ngc_fixed_length.specs.declared.modes.Plane.TheVariants.{XY, ZX, YZ}
use Rattle.ngc_fixed_length.specs.declared.points.Point2.{Point2}
use Rattle.ngc_fixed_length.specs.declared.points.Point3.{Point3}
use Rattle.ngc_fixed_length.specs.Limits.{IsLength}

abbrev pub plus : Point3 → Point3 → Point3
plus p q = record { x = p.x +ℤ q.x; y = p.y +ℤ q.y; z = p.z +ℤ q.z }

abbrev pub minus : Point3 → Point3 → Point3
minus p q = record { x = p.x -ℤ q.x; y = p.y -ℤ q.y; z = p.z -ℤ q.z }

abbrev pub zero_point : Point3
zero_point = record { x = pos 0; y = pos 0; z = pos 0 }

-- a point's coordinates in a plane, and its height above the plane
abbrev pub in_plane : Plane → Point3 → Point2
in_plane XY p = record { u = p.x; v = p.y }
in_plane ZX p = record { u = p.z; v = p.x }
in_plane YZ p = record { u = p.y; v = p.z }

abbrev pub height : Plane → Point3 → ℤ
height XY p = p.z
height ZX p = p.y
height YZ p = p.x

abbrev pub at_height : Plane → Point2 → ℤ → Point3
at_height XY p w = record { x = p.u; y = p.v; z = w }
at_height ZX p w = record { x = p.v; y = w; z = p.u }
at_height YZ p w = record { x = w; y = p.u; z = p.v }

-- points of the plane: p moved by d, and the vector from c to p
abbrev pub shifted : Point2 → Point2 → Point2
shifted p d = record { u = p.u +ℤ d.u; v = p.v +ℤ d.v }

abbrev pub from : Point2 → Point2 → Point2
from c p = record { u = p.u -ℤ c.u; v = p.v -ℤ c.v }

-- twice the area that d and e span, above 0 where d turns towards e counterclockwise; and their dot
-- product
abbrev pub cross : Point2 → Point2 → ℤ
cross d e = (d.u *ℤ e.v) -ℤ (d.v *ℤ e.u)

abbrev pub dot : Point2 → Point2 → ℤ
dot d e = (d.u *ℤ e.u) +ℤ (d.v *ℤ e.v)

-- each coordinate is a length
abbrev pub IsPlace : Point3 → Type 0
IsPlace p = IsLength p.x × IsLength p.y × IsLength p.z

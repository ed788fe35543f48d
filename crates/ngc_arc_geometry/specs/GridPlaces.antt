-- The position of a grid point in nanometres, and its coordinates in an arc's plane. Our own.
use Rattle.std.specs.Prelude.{ℤ, ◌*ℤ◌}
use Rattle.ngc_fixed_length.specs.Places.{in_plane, height}
use Rattle.ngc_fixed_length.specs.declared.points.Point2.{Point2}
use Rattle.ngc_fixed_length.specs.declared.points.Point3.{Point3}
use Rattle.ngc_fixed_length.specs.declared.points.StepPos.{StepPos}
use Rattle.ngc_arc_geometry.specs.Shape.{ArcShape}

-- a grid point in nanometres
abbrev pub in_nanometres : ℤ → StepPos → Point3
in_nanometres step p = record { x = p.x *ℤ step; y = p.y *ℤ step; z = p.z *ℤ step }

-- the same in the arc's plane
abbrev pub seen : ℤ → ArcShape → StepPos → Point2
seen step a p = in_plane a.plane (in_nanometres step p)

-- its height above the arc's plane, in steps
abbrev pub height_of : ArcShape → StepPos → ℤ
height_of a p = height a.plane (record { x = p.x; y = p.y; z = p.z })

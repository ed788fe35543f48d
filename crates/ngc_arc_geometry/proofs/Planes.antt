-- The plane's coordinates of a point that is in range.
use Rattle.std.proofs.Common.{◌≤◌, unsigned_abs}
use Rattle.ngc_fixed_length.specs.declared.modes.Plane.{Plane}
use Rattle.ngc_fixed_length.specs.declared.modes.Plane.TheVariants.{XY, ZX, YZ}
use Rattle.ngc_fixed_length.specs.declared.points.Point3.{Point3}
use Rattle.ngc_fixed_length.specs.Places.{in_plane}
use Rattle.ngc_arc_geometry.specs.Shape.{IsNear, END_LIMIT}

pub u_near : (plane : Plane) (p : Point3) → IsNear p → unsigned_abs (in_plane plane p).u ≤ END_LIMIT
u_near XY p near = near.x
u_near ZX p near = near.z
u_near YZ p near = near.y

pub v_near : (plane : Plane) (p : Point3) → IsNear p → unsigned_abs (in_plane plane p).v ≤ END_LIMIT
v_near XY p near = near.y
v_near ZX p near = near.x
v_near YZ p near = near.z

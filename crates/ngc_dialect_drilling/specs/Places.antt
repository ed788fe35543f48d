-- How far machine coordinates are from those of the program: by the origin, the offset of G92 and
-- the tool length of our own interpreter, and the length of G43.1, which the dialect keeps.
use Rattle.std.specs.Prelude.{ℕ, ℤ, ◌+ℤ◌}
use Rattle.ngc_fixed_length.specs.declared.modes.Plane.{Plane}
use Rattle.ngc_fixed_length.specs.declared.modes.Plane.TheVariants.{XY, ZX, YZ}
use Rattle.ngc_fixed_length.specs.declared.points.Point3.{Point3}
use Rattle.ngc_offsets.specs.Frames.{origin_of}
use Rattle.ngc_offsets.specs.declared.fault.Axis.{Axis}
use Rattle.ngc_offsets.specs.declared.fault.Axis.TheVariants.{X, Y, Z}
use Rattle.ngc_dialect_rules.specs.declared.front.Known.{Known}
use Rattle.ngc_dialect_rules.specs.Bytes as bytes

abbrev pub origin_here : Known → Point3
origin_here k = origin_of k.frames k.frames.active

abbrev pub own_shift : Known → Axis → ℤ
own_shift k X = (origin_here k).x +ℤ k.frames.axis_offset.x
own_shift k Y = (origin_here k).y +ℤ k.frames.axis_offset.y
own_shift k Z = ((origin_here k).z +ℤ k.frames.length) +ℤ k.frames.axis_offset.z

abbrev pub whole_shift : Known → Axis → ℤ
whole_shift k X = own_shift k X
whole_shift k Y = own_shift k Y
whole_shift k Z = own_shift k Z +ℤ k.front.length

-- the axis perpendicular to a plane, and the plane's axes
abbrev pub depth_axis : Plane → Axis
depth_axis XY = Z
depth_axis ZX = Y
depth_axis YZ = X

abbrev pub u_axis : Plane → Axis
u_axis XY = X
u_axis ZX = Z
u_axis YZ = Y

abbrev pub v_axis : Plane → Axis
v_axis XY = Y
v_axis ZX = X
v_axis YZ = Z

abbrev pub letter_of : Axis → ℕ
letter_of X = bytes.X
letter_of Y = bytes.Y
letter_of Z = bytes.Z

abbrev pub depth_letter : Plane → ℕ
depth_letter plane = letter_of (depth_axis plane)

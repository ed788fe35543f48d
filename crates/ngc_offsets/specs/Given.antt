-- The places to which a line's words lead (NISTIR 6556, 3.5.12: G53; 3.5.17: G90, G91).
use Rattle.std.specs.Prelude.{ℤ, ◌+ℤ◌, Option, Some, None, Result, Ok}
use Rattle.ngc_fixed_length.specs.declared.modes.Distance.{Distance}
use Rattle.ngc_fixed_length.specs.declared.modes.Distance.TheVariants.{Absolute, Incremental}
use Rattle.ngc_fixed_length.specs.declared.points.Point3.{Point3}
use Rattle.ngc_offsets.specs.declared.fault.Axis.{Axis}
use Rattle.ngc_offsets.specs.declared.fault.Axis.TheVariants.{X, Y, Z}
use Rattle.ngc_offsets.specs.declared.fault.FrameFault.{FrameFault}
use Rattle.ngc_offsets.specs.declared.fault.CoordinateRange.{CoordinateRange}
use Rattle.ngc_offsets.specs.declared.given.AxisLengths.{AxisLengths}
use Rattle.ngc_offsets.specs.Offsets.{Offsets}
use Rattle.ngc_offsets.specs.Faults.{◌>>=◌, coordinate}
use Rattle.ngc_offsets.specs.Frames.{to_machine, to_program}

-- the coordinate on one axis: without a word it stays, and after G91 a word is added to it
abbrev pub named_on_axis : CoordinateRange → Axis → Distance → ℤ → Option ℤ → Result ℤ FrameFault
named_on_axis reach axis distance current None = Ok current
named_on_axis reach axis Absolute current (Some l) = coordinate reach axis l
named_on_axis reach axis Incremental current (Some l) = coordinate reach axis (current +ℤ l)

abbrev pub named_point : CoordinateRange → Distance → Point3 → AxisLengths → Result Point3 FrameFault
named_point reach distance current given = do
  x ← named_on_axis reach X distance current.x given.x
  y ← named_on_axis reach Y distance current.y given.y
  z ← named_on_axis reach Z distance current.z given.z
  Ok (record { x = x; y = y; z = z })

-- the machine place to which a line leads from the machine place where it begins
abbrev pub target : Distance → Offsets → Point3 → AxisLengths → Result Point3 FrameFault
target distance f place given = do
  p ← named_point f.reach distance (to_program f place) given
  Ok (to_machine f p)

-- G53 takes the lengths as machine coordinates, in either distance mode
abbrev pub machine_target : CoordinateRange → Point3 → AxisLengths → Result Point3 FrameFault
machine_target reach place given = named_point reach Absolute place given

-- The map from programmed to machine places, and the changes of the offsets (NISTIR 6556, 3.2.2,
-- 3.5.5, 3.5.11, 3.5.13, 3.5.18).
use Rattle.std.specs.Prelude.{ℕ, ℤ, pos, ◌-ℤ◌, List, Option, Some, None, Result, Ok, Err}
use Rattle.std.specs.Prelude.{slice_index_or, slice_set}
use Rattle.ngc_fixed_length.specs.declared.modes.System.{System}
use Rattle.ngc_fixed_length.specs.declared.modes.System.TheVariants.{First, Second, Third, Fourth}
use Rattle.ngc_fixed_length.specs.declared.modes.System.TheVariants.{Fifth, Sixth, Seventh, Eighth}
use Rattle.ngc_fixed_length.specs.declared.modes.System.TheVariants.{Ninth}
use Rattle.ngc_fixed_length.specs.declared.points.Point3.{Point3}
use Rattle.ngc_fixed_length.specs.Places.{plus, minus, zero_point}
use Rattle.ngc_offsets.specs.declared.fault.Axis.{Axis}
use Rattle.ngc_offsets.specs.declared.fault.Axis.TheVariants.{X, Y, Z}
use Rattle.ngc_offsets.specs.declared.fault.FrameFault.{FrameFault}
use Rattle.ngc_offsets.specs.declared.fault.FrameFault.TheVariants.{NoSuchTool}
use Rattle.ngc_offsets.specs.declared.fault.CoordinateRange.{CoordinateRange}
use Rattle.ngc_offsets.specs.declared.given.AxisLengths.{AxisLengths}
use Rattle.ngc_offsets.specs.Offsets.{Offsets}
use Rattle.ngc_offsets.specs.Ranges.{IsMachinePlace}
use Rattle.ngc_offsets.specs.Faults.{◌>>=◌, coordinate, offset}

-- a system's index in the list of origins
abbrev pub index : System → ℕ
index First = 0
index Second = 1
index Third = 2
index Fourth = 3
index Fifth = 4
index Sixth = 5
index Seventh = 6
index Eighth = 7
index Ninth = 8

abbrev pub origin_of : Offsets → System → Point3
origin_of f system = slice_index_or f.origins (index system) zero_point

-- at the start the first system is active, and there is no offset
abbrev pub start_frames : CoordinateRange → List Point3 → Offsets
start_frames reach origins =
    record {
      origins = origins;
      active = First;
      axis_offset = zero_point;
      saved = zero_point;
      length = pos 0;
      reach = reach;
    }

-- the tool length offset is on Z
abbrev pub on_z : ℤ → Point3
on_z l = record { x = pos 0; y = pos 0; z = l }

-- the difference between machine places and programmed places, without the axis offset and with it
abbrev pub base_of : Offsets → Point3
base_of f = plus (origin_of f f.active) (on_z f.length)

abbrev pub shift_of : Offsets → Point3
shift_of f = plus (base_of f) f.axis_offset

abbrev pub to_machine : Offsets → Point3 → Point3
to_machine f p = plus p (shift_of f)

abbrev pub to_program : Offsets → Point3 → Point3
to_program f p = minus p (shift_of f)

-- a programmed place within the machine's reach
abbrev pub IsReachable : Offsets → Point3 → Type 0
IsReachable f p = IsMachinePlace (to_machine f p)

-- one axis of an origin or offset: without a word it keeps its value; a length sets it by a rule
abbrev pub on_axis : (ℤ → Result ℤ FrameFault) → ℤ → Option ℤ → Result ℤ FrameFault
on_axis rule had None = Ok had
on_axis rule had (Some l) = rule l

-- G10: the lengths are the origin's coordinates
abbrev pub new_origin : Point3 → AxisLengths → Result Point3 FrameFault
new_origin had given = do
  x ← on_axis (offset X) had.x given.x
  y ← on_axis (offset Y) had.y given.y
  z ← on_axis (offset Z) had.z given.z
  Ok (record { x = x; y = y; z = z })

abbrev pub set_origin : Offsets → System → AxisLengths → Result Offsets FrameFault
set_origin f system given = do
  origin ← new_origin (origin_of f system) given
  Ok (record f { origins = slice_set f.origins (index system) origin })

-- G92: the axis offset with which the machine place has the coordinate l on an axis
abbrev pub left_over : CoordinateRange → Axis → ℤ → ℤ → ℤ → Result ℤ FrameFault
left_over reach axis place base l = do
  c ← coordinate reach axis l
  offset axis (place -ℤ base -ℤ c)

abbrev pub new_axis : CoordinateRange → Point3 → Point3 → Point3 → AxisLengths →
    Result Point3 FrameFault
new_axis reach place base had given = do
  x ← on_axis (left_over reach X place.x base.x) had.x given.x
  y ← on_axis (left_over reach Y place.y base.y) had.y given.y
  z ← on_axis (left_over reach Z place.z base.z) had.z given.z
  Ok (record { x = x; y = y; z = z })

abbrev pub set_axis : Offsets → Point3 → AxisLengths → Result Offsets FrameFault
set_axis f place given = do
  axis ← new_axis f.reach place (base_of f) f.axis_offset given
  Ok (record f { axis_offset = axis; saved = axis })

-- G92.1, G92.2, G92.3
abbrev pub clear : Offsets → Offsets
clear f = record f { axis_offset = zero_point; saved = zero_point }

abbrev pub suspend : Offsets → Offsets
suspend f = record f { axis_offset = zero_point }

abbrev pub restore : Offsets → Offsets
restore f = record f { axis_offset = f.saved }

-- G43 with its tool's offset, if there is such a tool; G49 and H0 with 0
abbrev pub set_length : Offsets → Option ℤ → Result Offsets FrameFault
set_length f None = Err NoSuchTool
set_length f (Some l) = do
  length ← offset Z l
  Ok (record f { length = length })

abbrev pub select : Offsets → System → Offsets
select f system = record f { active = system }

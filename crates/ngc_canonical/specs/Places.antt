-- Programmed points, and changes of the frames (NISTIR 6556, 3.5.5 G10, 3.5.8 G28 and G30, 3.5.12
-- G53, 3.5.18 G92).
use Rattle.std.specs.Prelude.{ℕ, zero, suc, ℤ, pos, List, Option, Some, None, Result, Ok, Err}
use Rattle.std.specs.Prelude.{Bool, true, false, is_some, ◌||◌, if◌then◌else◌}
use Rattle.ngc_fixed_length.specs.Limits.{length_of}
use Rattle.ngc_fixed_length.specs.declared.units.Units.{Units}
use Rattle.ngc_fixed_length.specs.declared.modes.System.{System}
use Rattle.ngc_fixed_length.specs.declared.points.Point3.{Point3}
use Rattle.ngc_machine_files.specs.declared.tools.Tool.{Tool}
use Rattle.ngc_machine_files.specs.Machine.{MachineFile}
use Rattle.ngc_machine_files.specs.Tools.{tool_at}
use Rattle.ngc_modal_state.specs.declared.block.AxisWords.{AxisWords}
use Rattle.ngc_modal_state.specs.declared.effect.Home.{Home}
use Rattle.ngc_modal_state.specs.declared.effect.Home.TheVariants as homes
use Rattle.ngc_offsets.specs.declared.fault.FrameFault.{FrameFault}
use Rattle.ngc_offsets.specs.declared.given.AxisLengths.{AxisLengths}
use Rattle.ngc_offsets.specs.Offsets.{Offsets}
use Rattle.ngc_offsets.specs.Frames as frame
use Rattle.ngc_offsets.specs.Given.{target, machine_target}
use Rattle.ngc_canonical.specs.declared.fault.Fault.{Fault}
use Rattle.ngc_canonical.specs.declared.fault.Fault.TheVariants.{Length, Frame, NoSuchTool}
use Rattle.ngc_canonical.specs.Steps.{◌>>=◌, faulted}
use Rattle.ngc_canonical.specs.State.{State, unseries, traverse_to}

-- a word's length, if the word is present
abbrev pub word_length : Units → Option ℤ → Result (Option ℤ) Fault
word_length units None = Ok None
word_length units (Some v) = do
  l ← faulted Length (length_of units v)
  Ok (Some l)

abbrev pub axis_lengths : Units → AxisWords → Result AxisLengths Fault
axis_lengths units words = do
  x ← word_length units words.x
  y ← word_length units words.y
  z ← word_length units words.z
  Ok (record { x = x; y = y; z = z })

-- the machine point of lengths; with G53 they are machine coordinates
abbrev pub end_at : Bool → State → AxisLengths → Result Point3 FrameFault
end_at true s given = machine_target s.frames.reach s.place given
end_at false s given = target s.modes.distance s.frames s.place given

-- the machine point of axis words: first their lengths, then their range
abbrev pub end_of : Bool → State → AxisWords → Result Point3 Fault
end_of is_machine_place s words = do
  given ← axis_lengths s.modes.units words
  faulted Frame (end_at is_machine_place s given)

abbrev pub with_frames : State → Result Offsets FrameFault → Result State Fault
with_frames s changed = do
  f ← faulted Frame changed
  Ok (unseries (record s { frames = f }))

abbrev pub set_origin : System → AxisWords → State → Result State Fault
set_origin system words s = do
  given ← axis_lengths s.modes.units words
  with_frames s (frame.set_origin s.frames system given)

abbrev pub set_offset : AxisWords → State → Result State Fault
set_offset words s = do
  given ← axis_lengths s.modes.units words
  with_frames s (frame.set_axis s.frames s.place given)

-- G43 H uses the tool's offset, if there is such a tool; H0 and G49 set 0
abbrev pub offset_found : ℕ → Option Tool → Result ℤ Fault
offset_found n None = Err (NoSuchTool n)
offset_found n (Some tool) = Ok tool.offset

abbrev pub length_offset : List Tool → ℕ → Result ℤ Fault
length_offset tools zero = Ok (pos 0)
length_offset tools (suc n) = offset_found (suc n) (tool_at tools (suc n))

abbrev pub tool_length : List Tool → Option ℕ → Result ℤ Fault
tool_length tools None = Ok (pos 0)
tool_length tools (Some n) = length_offset tools n

abbrev pub set_length : List Tool → Option ℕ → State → Result State Fault
set_length tools h s = do
  length ← tool_length tools h
  with_frames s (frame.set_length s.frames (Some length))

abbrev pub home_of : MachineFile → Home → Point3
home_of machine homes.First = machine.home28
home_of machine homes.Second = machine.home30

abbrev pub stands : AxisWords → Bool
stands words = is_some words.x || is_some words.y || is_some words.z

-- G28 and G30: to the home position on all axes, through the programmed point if there are axis
-- words
abbrev pub go_home : MachineFile → Home → AxisWords → State → Result State Fault
go_home machine home words s = do
  through ← end_of false s words
  t ← (if stands words then traverse_to through s else Ok s)
  u ← traverse_to (home_of machine home) t
  Ok (unseries u)

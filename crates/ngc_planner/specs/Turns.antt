-- How sharply each axis may turn. Our own.
use Rattle.std.specs.Prelude.{◌≡◌, ℕ, min, Option, Some, None}
use Rattle.ngc_fixed_length.specs.declared.modes.Plane.{Plane}
use Rattle.ngc_fixed_length.specs.declared.modes.Plane.TheVariants.{XY, ZX, YZ}
use Rattle.ngc_arc_geometry.specs.Shape.{ArcShape}
use Rattle.ngc_machine_files.specs.Machine.{MachineFile}
use Rattle.ngc_machine_files.specs.declared.machine.AxisLimits.{AxisLimits}
use Rattle.ngc_machine_files.specs.declared.machine.AxisTurns.{AxisTurns}

abbrev pub one_turn : ℕ → AxisTurns
one_turn turn = record { x = turn; y = turn; z = turn }

-- the turn of each axis: that of the machine, or on a machine with limits of each axis the axis'
-- own, if that is less
abbrev pub turns_by : Option AxisLimits → ℕ → AxisTurns
turns_by None turn = one_turn turn
turns_by (Some limits) turn = record {
  x = min turn limits.turns.x;
  y = min turn limits.turns.y;
  z = min turn limits.turns.z;
}

abbrev pub axis_turns : MachineFile → AxisTurns
axis_turns machine = turns_by machine.own machine.turn

-- an arc moves the two axes of its plane: the lesser of their turns
abbrev pub plane_turn : Plane → AxisTurns → ℕ
plane_turn XY turns = min turns.x turns.y
plane_turn ZX turns = min turns.z turns.x
plane_turn YZ turns = min turns.y turns.z

abbrev pub arc_turn : MachineFile → ArcShape → ℕ
arc_turn machine a = plane_turn a.plane (axis_turns machine)

-- ---- a property of every machine

-- without limits of each axis the turn of each is that of the machine
abbrev pub IsOneTurn : Type 0
IsOneTurn =
    (machine : MachineFile) → machine.own ≡ None → axis_turns machine ≡ one_turn machine.turn

-- A machine's rates as speeds and accelerations. Our own.
use Rattle.std.specs.Prelude.{ℕ, ◌+◌, ◌*◌, ◌/◌, min, max, unsigned_abs, Option, Some, None}
use Rattle.ngc_machine_files.specs.Machine.{MachineFile}
use Rattle.ngc_machine_files.specs.declared.machine.ArcFeed.{ArcFeed}
use Rattle.ngc_machine_files.specs.declared.machine.ArcFeed.TheVariants as arc_feeds
use Rattle.ngc_machine_files.specs.declared.machine.AxisLimits.{AxisLimits}
use Rattle.ngc_machine_files.specs.declared.machine.AxisRates.{AxisRates}
use Rattle.ngc_machine_files.specs.declared.machine.AxisTurns.{AxisTurns}
use Rattle.ngc_motors.specs.declared.step.MotorStep.{MotorStep}

-- a number in a unit, to the nearest; halves go up
abbrev pub rounded : ℕ → ℕ → ℕ
rounded number unit = (2 * number + unit) / (2 * unit)

-- the speed of one step per tick, in nanometres per second
abbrev pub step_speed : MachineFile → ℕ
step_speed m = unsigned_abs m.step * m.ticks_per_second

-- the speed of a rate: the rate is in millionths of a step per tick, the speed in millionths of a
-- nanometre per second
abbrev pub speed : MachineFile → ℕ → ℕ
speed m rate = rate * step_speed m

-- an acceleration in steps per tick, per tick, as nanometres per second squared
abbrev pub gain : MachineFile → ℕ → ℕ
gain m steps = steps * (step_speed m * m.ticks_per_second)

-- the change of the rate of a motion along each axis alone
abbrev pub changes_by : Option AxisLimits → ℕ → AxisRates
changes_by None change = record { x = change; y = change; z = change }
changes_by (Some own) change = record {
  x = min change own.changes.x;
  y = min change own.changes.y;
  z = min change own.changes.z;
}

abbrev pub axis_changes : MachineFile → AxisRates
axis_changes m = changes_by m.own m.change

-- ---- in thousandths of the units that a shop uses

abbrev pub steps_a_millimetre : MachineFile → ℕ
steps_a_millimetre m = rounded 1000000000 (unsigned_abs m.step)

abbrev pub motor_steps_a_millimetre : MotorStep → ℕ
motor_steps_a_millimetre m = rounded (1000000000 * m.steps) (max m.nanometres 1)

abbrev pub millimetres_a_minute : MachineFile → ℕ → ℕ
millimetres_a_minute m rate = rounded (60 * speed m rate) 1000000000

-- of a change of the rate, in millionths
abbrev pub acceleration : MachineFile → ℕ → ℕ
acceleration m change = rounded (gain m change) 1000000000

-- The greatest acceleration towards the centre of an arc with a radius of a step or more, in
-- turns. The arc's turn times the radius bounds the square of the rate, which is that of the
-- axis that moves most. Where the arc runs along an axis, its speed is that rate. Where it runs
-- diagonally, two axes have that rate: the square of the speed is twice as large, and so is the
-- acceleration. If the turn holds at each place, the rate that is aimed at there is lower.
abbrev pub diagonal_turns : ArcFeed → ℕ
diagonal_turns arc_feeds.Off = 2
diagonal_turns arc_feeds.Feed = 2
diagonal_turns arc_feeds.FeedAndTurn = 1

-- the turn in the plane in which it is greatest: each of its two axes must have it
abbrev pub greatest_of_planes : AxisTurns → ℕ
greatest_of_planes turns =
    max (min turns.x turns.y) (max (min turns.z turns.x) (min turns.y turns.z))

abbrev pub greatest_turn_by : Option AxisLimits → ℕ → ℕ
greatest_turn_by None turn = turn
greatest_turn_by (Some own) turn = min turn (greatest_of_planes own.turns)

abbrev pub greatest_turn : MachineFile → ℕ
greatest_turn m = greatest_turn_by m.own m.turn

-- in millionths of a millionth of a nanometre per second squared
abbrev pub pull : MachineFile → ℕ
pull m = diagonal_turns m.arc_feed * gain m (greatest_turn m)

abbrev pub arc_acceleration : MachineFile → ℕ
arc_acceleration m = rounded (pull m) 1000000000000000

-- The numbers of a machine file in the units of a shop, as `ngc show` prints them.
use Rattle.std.specs.Prelude.{ℕ, ◌+◌, ◌-◌, ◌*◌, ◌/◌, ◌==◌, ◌&&◌, not, nat_lt, ℤ, ◌-ℤ◌, unsigned_abs, Bool}
use Rattle.ngc_machine_maker.specs.declared.figures.Figures.{Figures}
use Rattle.ngc_machine_maker.specs.declared.figures.PerAxis.{PerAxis}
use Rattle.ngc_machine_maker.specs.declared.numbers.MachineNumbers.{MachineNumbers}
use Rattle.ngc_machine_maker.specs.Formulas.{diagonal_turns}
use Rattle.ngc_machine_maker.specs.Motors.{are_equal}

-- the number of units in a number, to the nearest; halves go up
abbrev pub rounded : ℕ → ℕ → ℕ
rounded number unit = (2 * number + unit) / (2 * unit)

-- the speed of a step per tick, in nanometres per second
abbrev pub step_speed : MachineNumbers → ℕ
step_speed n = n.step * n.ticks_per_second

-- the speed of a rate, in thousandths of a millimetre per minute
abbrev pub speed : MachineNumbers → ℕ → ℕ
speed n rate = rounded (60 * (rate * step_speed n)) 1000000000

abbrev pub speeds : MachineNumbers → PerAxis ℕ
speeds n =
    record { x = speed n n.axis_rate.x; y = speed n n.axis_rate.y; z = speed n n.axis_rate.z }

-- the acceleration of `steps` steps per tick in each tick, in nanometres per second squared
abbrev pub gain : MachineNumbers → ℕ → ℕ
gain n steps = steps * (step_speed n * n.ticks_per_second)

-- in thousandths of a millimetre per second squared
abbrev pub acceleration : MachineNumbers → ℕ
acceleration n = rounded (gain n n.change) 1000000000

-- the greatest acceleration towards the centre of an arc that is aimed at, in the same unit
abbrev pub arc_acceleration : MachineNumbers → ℕ
arc_acceleration n = rounded (diagonal_turns n.arc_feed * gain n n.turn) 1000000000000000

-- ---- the finest motor's step and the file's

-- the motor's step, in thousandths of a nanometre
abbrev pub motor_step : Figures → ℕ
motor_step f = rounded (1000 * f.scale.per) f.scale.steps

-- the file's step in steps of the motor, times the length of the motor's ratio
abbrev pub file_step : MachineNumbers → Figures → ℕ
file_step n f = n.step * f.scale.steps

abbrev pub is_whole : MachineNumbers → Figures → Bool
is_whole n f = file_step n f == f.scale.per

-- one step serves all motors, and the file's is another
abbrev pub is_rounded : MachineNumbers → Figures → Bool
is_rounded n f = are_equal f.motors && not (is_whole n f)

-- if the file's step is the longer one, the axes go less far than the file says
abbrev pub is_short : MachineNumbers → Figures → Bool
is_short n f = nat_lt f.scale.per (file_step n f)

abbrev pub difference : ℕ → ℕ → ℕ
difference a b = (a - b) + (b - a)

-- over a distance in the file, the difference to the motor's distance, in nanometres, rounded up
abbrev pub error_over : MachineNumbers → Figures → ℕ → ℕ
error_over n f distance =
    (distance * difference (file_step n f) f.scale.per + file_step n f - 1) / file_step n f

abbrev pub travel_length : ℤ → ℤ → ℕ
travel_length low high = unsigned_abs (high -ℤ low)

abbrev pub errors : MachineNumbers → Figures → PerAxis ℕ
errors n f =
    record {
      x = error_over n f (travel_length n.low.x n.high.x);
      y = error_over n f (travel_length n.low.y n.high.y);
      z = error_over n f (travel_length n.low.z n.high.z);
    }

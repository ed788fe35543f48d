-- The rules of pulses: the number of pulses in a window of ticks. Our own.
use Rattle.std.specs.Prelude.{ℕ, ◌+◌, ◌-◌, ◌*◌, ◌/◌, ◌≤◌, min, ℤ, unsigned_abs, List, length, take}
use Rattle.std.specs.Prelude.{drop, count_by, Bool, nat_lt, ◌||◌, Option, Some, None}
use Rattle.ngc_fixed_length.specs.declared.points.StepPos.{StepPos}
use Rattle.ngc_machine_files.specs.Machine.{MachineFile}
use Rattle.ngc_machine_files.specs.declared.machine.AxisLimits.{AxisLimits}
use Rattle.ngc_fixed_length.specs.Limits.{MILLION}

-- the movement of each axis in a tick: -1, 0 or 1
abbrev pub Pulse : Type 0
Pulse = StepPos

abbrev pub is_stepping : ℤ → Bool
is_stepping d = nat_lt 0 (unsigned_abs d)

abbrev pub is_path_step : Pulse → Bool
is_path_step p = is_stepping p.x || (is_stepping p.y || is_stepping p.z)

-- the number of the n ticks from tick i on that pass a test
abbrev pub count_in : (Pulse → Bool) → ℕ → ℕ → List Pulse → ℕ
count_in test i n ticks = count_by test (take n (drop i ticks))

-- x / MILLION, rounded up
abbrev pub up_to_whole : ℕ → ℕ
up_to_whole x = (x + (MILLION - 1)) / MILLION

-- On a machine with limits of each axis an axis has a share of a motion's rate. Its path is within a
-- step of the line, whose ends are within half a step of grid points: so at each end of a window of
-- ticks it may be up to one and a half steps from its share.
abbrev pub uneven : Option AxisLimits → ℕ
uneven None = 0
uneven (Some limits) = 3

-- the greatest number of pulses in n ticks of an axis whose rate is this number
abbrev pub most_pulses : MachineFile → ℕ → ℕ → ℕ
most_pulses machine rate n = up_to_whole (n * min machine.max_rate rate) + uneven machine.own

pub record KeepsPulseRules (machine : MachineFile) (ticks : List Pulse) : Type 0 where
  pub x : (i n : ℕ) → i + n ≤ length ticks →
      count_in (λ p. is_stepping p.x) i n ticks ≤ most_pulses machine machine.axis_rates.x n
  pub y : (i n : ℕ) → i + n ≤ length ticks →
      count_in (λ p. is_stepping p.y) i n ticks ≤ most_pulses machine machine.axis_rates.y n
  pub z : (i n : ℕ) → i + n ≤ length ticks →
      count_in (λ p. is_stepping p.z) i n ticks ≤ most_pulses machine machine.axis_rates.z n
  -- two windows of n ticks, one directly after the other
  pub faster : (i n : ℕ) → i + n + n ≤ length ticks →
      count_in is_path_step (i + n) n ticks ≤ count_in is_path_step i n ticks
      + up_to_whole (n * n * machine.change) + 1
  pub slower : (i n : ℕ) → i + n + n ≤ length ticks →
      count_in is_path_step i n ticks ≤ count_in is_path_step (i + n) n ticks
      + up_to_whole (n * n * machine.change) + 1

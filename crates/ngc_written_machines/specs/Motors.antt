-- The motors of a machine's axes: the path's grid, and the travel that ends at whole steps of each. Our
-- own.
use Rattle.std.specs.Prelude.{ℕ, ◌/◌, min, pos, Bool, ◌&&◌, ◌||◌, not}
use Rattle.std.specs.Prelude.{if◌then◌else◌}
use Rattle.ngc_fixed_length.specs.Signed.{is_within}
use Rattle.ngc_quantities.specs.declared.range.Range.{Range}
use Rattle.ngc_motors.specs.Counts.{first_place, is_grid_step, last_place}
use Rattle.ngc_motors.specs.declared.step.MotorStep.{MotorStep}
use Rattle.ngc_motors.specs.declared.step.MotorSteps.{MotorSteps}
use Rattle.ngc_motor_scale.specs.Scales.{IsScale}
use Rattle.ngc_machine_figures.specs.declared.sheet.AxesSheet.{AxesSheet}
use Rattle.ngc_machine_files.specs.Ranges.{TRAVEL_LIMIT}
use Rattle.ngc_machine_maker.specs.declared.figures.PerAxis.{PerAxis}

pub record AreScales (own : MotorSteps) : Type 0 where
  pub x : IsScale own.x
  pub y : IsScale own.y
  pub z : IsScale own.z

-- a step in whole nanometres, rounded down
abbrev pub rounded_down : MotorStep → ℕ
rounded_down m = m.nanometres / m.steps

-- the step of the path's grid: that of the finest motor, rounded down. So no motor's step is shorter
abbrev pub grid_of : MotorSteps → ℕ
grid_of own = min (min (rounded_down own.x) (rounded_down own.y)) (rounded_down own.z)

-- ---- the travel

abbrev pub is_beyond : Range → Bool
is_beyond r = not (is_within TRAVEL_LIMIT r.low && is_within TRAVEL_LIMIT r.high)

-- Where a motor's step isn't the grid's, the ends of its axis' travel move inwards to whole steps of
-- the motor. An end that is out of range stays, and is refused.
abbrev pub ends_of : ℕ → MotorStep → Range → Range
ends_of grid m r =
    if is_grid_step (pos grid) m || is_beyond r then r
    else record { low = first_place m r.low; high = last_place m r.high }

abbrev pub travel_ends : ℕ → MotorSteps → AxesSheet → PerAxis Range
travel_ends grid own a = record {
  x = ends_of grid own.x a.x.travel;
  y = ends_of grid own.y a.y.travel;
  z = ends_of grid own.z a.z.travel;
}

-- Motors of which one step may be longer than a step of the path's grid, and no whole number of
-- nanometres. A motor stands at a whole number of its steps, its count. Our own.
use Rattle.std.specs.Prelude.{ℕ, ◌+◌, ◌-◌, ◌*◌, ◌/◌, ◌==◌, ◌<◌, ◌≤◌, nat_lt, nat_le, ℤ, pos, ◌+ℤ◌, ◌-ℤ◌, ◌*ℤ◌, int_le}
use Rattle.std.specs.Prelude.{Bool, ◌&&◌, IsTrue, if◌then◌else◌}
use Rattle.std.specs.Int.{int_div_euclid, int_max}
use Rattle.std.specs.Ordering.{int_eq}
use Rattle.ngc_fixed_length.specs.Length.{IsStep}
use Rattle.ngc_fixed_length.specs.declared.points.Point3.{Point3}
use Rattle.ngc_fixed_length.specs.declared.points.StepPos.{StepPos}
use Rattle.ngc_motors.specs.declared.step.MotorStep.{MotorStep}
use Rattle.ngc_motors.specs.declared.step.MotorSteps.{MotorSteps}

-- the length of a step of the grid in nanometres, and the step of each axis' motor
pub record MotorData : Type 0 where
  pub grid : ℤ
  pub steps : MotorSteps

-- ---- steps

-- a step is at least a nanometre, and neither number of its ratio is above 2^40
pub record IsMotorStep (m : MotorStep) : Type 0 where
  pub some : 0 < m.steps
  pub least : m.steps ≤ m.nanometres
  pub greatest : m.nanometres ≤ 1099511627776

abbrev pub whole_step : ℕ → MotorStep
whole_step nanometres = record { nanometres = nanometres; steps = 1 }

abbrev pub equal_steps : ℕ → MotorSteps
equal_steps nanometres = record {
  x = whole_step nanometres;
  y = whole_step nanometres;
  z = whole_step nanometres;
}

-- the step is that of the grid
abbrev pub is_grid_step : ℤ → MotorStep → Bool
is_grid_step grid m = (m.steps == 1) && int_eq grid (pos m.nanometres)

-- a motor's step is not shorter than the grid's, and at most a millimetre
abbrev pub is_motor : ℤ → MotorStep → Bool
is_motor grid m =
    nat_lt 0 m.steps && nat_le m.nanometres 1099511627776 && int_le (grid *ℤ pos m.steps) (pos m.nanometres)
    && nat_le m.nanometres (1000000 * m.steps)

pub record AreMotors (m : MotorData) : Type 0 where
  pub grid : IsStep m.grid
  pub x : IsTrue (is_motor m.grid m.steps.x)
  pub y : IsTrue (is_motor m.grid m.steps.y)
  pub z : IsTrue (is_motor m.grid m.steps.z)

-- ---- counts

-- the whole number nearest to a / b; of two that are equally near, the greater one
abbrev pub nearest : ℤ → ℤ → ℤ
nearest a b = int_div_euclid ((a +ℤ a) +ℤ b) (b +ℤ b)

-- the count of a motor for a place on its axis in nanometres: the number of its steps nearest to it
abbrev pub count : MotorStep → ℤ → ℤ
count m place = nearest (place *ℤ pos m.steps) (pos m.nanometres)

-- the counts of all three motors for a grid point
abbrev pub counts : MotorData → StepPos → StepPos
counts m p = record {
  x = count m.steps.x (p.x *ℤ m.grid);
  y = count m.steps.y (p.y *ℤ m.grid);
  z = count m.steps.z (p.z *ℤ m.grid);
}

-- ---- places to which counts move the axes

-- in parts of a nanometre, of which the motor's `steps` make one
abbrev pub commanded_parts : MotorStep → ℤ → ℤ
commanded_parts m place = count m place *ℤ pos m.nanometres

-- the whole nanometre that is there or next below, and the one that is there or next above
abbrev pub place_below : MotorStep → ℤ → ℤ
place_below m place = int_div_euclid (commanded_parts m place) (pos m.steps)

abbrev pub place_above : MotorStep → ℤ → ℤ
place_above m place = int_div_euclid ((commanded_parts m place +ℤ pos m.steps) -ℤ pos 1) (pos m.steps)

-- The counts for a grid point move the machine to a point from the first of these up to the second,
-- in nanometres. They are the same point if each step is a whole number of nanometres.
abbrev pub commanded_low : MotorData → StepPos → Point3
commanded_low m p = record {
  x = place_below m.steps.x (p.x *ℤ m.grid);
  y = place_below m.steps.y (p.y *ℤ m.grid);
  z = place_below m.steps.z (p.z *ℤ m.grid);
}

abbrev pub commanded_high : MotorData → StepPos → Point3
commanded_high m p = record {
  x = place_above m.steps.x (p.x *ℤ m.grid);
  y = place_above m.steps.y (p.y *ℤ m.grid);
  z = place_above m.steps.z (p.z *ℤ m.grid);
}

-- ---- ends of a travel

-- The motor can stand at both ends of a travel, to the nanometre: for an end it stands less than a
-- nanometre inside it.
abbrev pub ends_at_steps : MotorStep → ℤ → ℤ → Bool
ends_at_steps m low high = int_eq (place_below m low) low && int_eq (place_above m high) high

-- the count of the first whole step from a place in nanometres up, and from there down
abbrev pub count_up : MotorStep → ℤ → ℤ
count_up m place =
    int_div_euclid (((place *ℤ pos m.steps) +ℤ pos m.nanometres) -ℤ pos 1) (pos m.nanometres)

abbrev pub count_down : MotorStep → ℤ → ℤ
count_down m place = int_div_euclid (place *ℤ pos m.steps) (pos m.nanometres)

-- a low end that is moved up to that step, and a high end that is moved down: the whole nanometre
-- there, or the next outside
abbrev pub first_place : MotorStep → ℤ → ℤ
first_place m place = int_div_euclid (count_up m place *ℤ pos m.nanometres) (pos m.steps)

abbrev pub last_place : MotorStep → ℤ → ℤ
last_place m place =
    int_div_euclid (((count_down m place *ℤ pos m.nanometres) +ℤ pos m.steps) -ℤ pos 1) (pos m.steps)

-- ---- how far motors stand from the path

-- half of the step, rounded up to a nanometre; a motor with the step of the grid stands at its points
abbrev pub slack_of : ℤ → MotorStep → ℤ
slack_of grid m =
    if is_grid_step grid m then pos 0
    else pos ((m.nanometres + 2 * m.steps - 1) / (2 * m.steps))

-- how far a motor may stand from the place on its axis that the path is at
abbrev pub slack : MotorData → ℤ
slack m =
    int_max (int_max (slack_of m.grid m.steps.x) (slack_of m.grid m.steps.y)) (slack_of m.grid m.steps.z)

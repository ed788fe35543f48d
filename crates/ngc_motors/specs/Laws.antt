-- What the counts of motors are. Our own.
use Rattle.std.specs.Prelude.{◌≡◌, ◌<◌, ℤ, pos, ◌+ℤ◌, ◌-ℤ◌, ◌*ℤ◌, ◌≤ℤ◌, IsTrue}
use Rattle.ngc_fixed_length.specs.Length.{IsStep}
use Rattle.ngc_motors.specs.Counts.{commanded_parts, count, ends_at_steps, first_place, is_motor, last_place}
use Rattle.ngc_motors.specs.Counts.{place_above, place_below}
use Rattle.ngc_motors.specs.declared.step.MotorStep.{MotorStep}

-- a place in nanometres, in the parts of which the motor's `steps` make a nanometre
abbrev pub parts : MotorStep → ℤ → ℤ
parts m place = place *ℤ pos m.steps

-- a count's place is at most half a motor step from the place that it stands for
pub record IsNearest (m : MotorStep) (place : ℤ) : Type 0 where
  pub low : ((parts m place +ℤ parts m place) -ℤ pos m.nanometres)
      ≤ℤ (commanded_parts m place +ℤ commanded_parts m place)
  pub high : (commanded_parts m place +ℤ commanded_parts m place)
      ≤ℤ ((parts m place +ℤ parts m place) +ℤ pos m.nanometres)

abbrev pub CountIsNearest : Type 0
CountIsNearest = (m : MotorStep) (place : ℤ) → 0 < m.nanometres → IsNearest m place

-- a count never falls where the place rises
abbrev pub CountRises : Type 0
CountRises = (m : MotorStep) (a b : ℤ) → 0 < m.nanometres → a ≤ℤ b → count m a ≤ℤ count m b

-- and where the place rises by at most a motor step, the count rises by at most one: so a step of the
-- grid is at most one step of a motor whose steps aren't shorter
abbrev pub CountMovesByOne : Type 0
CountMovesByOne = (m : MotorStep) (a b : ℤ) → 0 < m.nanometres →
    parts m b ≤ℤ (parts m a +ℤ pos m.nanometres) → count m b ≤ℤ (count m a +ℤ pos 1)

-- a whole number of motor steps has just that count
abbrev pub CountOfWhole : Type 0
CountOfWhole = (m : MotorStep) (k place : ℤ) → 0 < m.nanometres →
    parts m place ≡ k *ℤ pos m.nanometres → count m place ≡ k

-- a travel whose ends are moved ends at steps
abbrev pub MovedEndsFit : Type 0
MovedEndsFit = (grid : ℤ) (m : MotorStep) (low high : ℤ) → IsStep grid → IsTrue (is_motor grid m) →
    IsTrue (ends_at_steps m (first_place m low) (last_place m high))

-- the place of a count is between two whole nanometres, of which one is at most 1 nm above the other
pub record IsBetween (m : MotorStep) (place : ℤ) : Type 0 where
  pub above : parts m (place_below m place) ≤ℤ commanded_parts m place
  pub below : commanded_parts m place ≤ℤ parts m (place_above m place)
  pub near : place_above m place ≤ℤ (place_below m place +ℤ pos 1)

abbrev pub PlaceIsBetween : Type 0
PlaceIsBetween = (m : MotorStep) (place : ℤ) → 0 < m.steps → IsBetween m place

-- The allowed numbers of a machine file, as in docs/FORMATS.md.
use Rattle.std.specs.Prelude.{ℕ, ◌≤◌, ◌%◌, ◌≡◌, ℤ, ◌≤ℤ◌, unsigned_abs}
use Rattle.ngc_machine_maker.specs.declared.numbers.MachineNumbers.{MachineNumbers}
use Rattle.ngc_machine_maker.specs.declared.numbers.Steps.{Steps}
use Rattle.ngc_machine_maker.specs.declared.scale.Scale.{Scale}
use Rattle.ngc_machine_maker.specs.Ranges.{IsRate, AreRates, IsTurn, AreTurns, AreTravels, AreStops, IsRing}

-- the travel of an axis is within 3,999 mm of zero, and within 1,000 mm in a file with rates; the
-- start is in it, a whole number of steps from zero, and so are the home positions
pub record IsAxisInFile (step : ℕ) (low high start home28 home30 : ℤ) : Type 0 where
  pub low_near : unsigned_abs low ≤ 3999000000
  pub high_near : unsigned_abs high ≤ 3999000000
  pub start_from : low ≤ℤ start
  pub start_to : start ≤ℤ high
  pub start_whole : unsigned_abs start % step ≡ 0
  pub home28_from : low ≤ℤ home28
  pub home28_to : home28 ≤ℤ high
  pub home30_from : low ≤ℤ home30
  pub home30_to : home30 ≤ℤ high

pub record ArePlacesInFile (n : MachineNumbers) : Type 0 where
  pub x : IsAxisInFile n.step n.low.x n.high.x n.start.x n.home28.x n.home30.x
  pub y : IsAxisInFile n.step n.low.y n.high.y n.start.y n.home28.y n.home30.y
  pub z : IsAxisInFile n.step n.low.z n.high.z n.start.z n.home28.z n.home30.z

pub record AreInFile (n : MachineNumbers) : Type 0 where
  pub least_step : 500 ≤ n.step
  pub greatest_step : n.step ≤ 50000
  pub ticks_per_second : IsRate n.ticks_per_second
  pub max_rate : IsRate n.max_rate
  pub change : IsRate n.change
  pub changes : AreRates n.changes
  pub corner : IsRate n.corner
  pub turn : IsTurn n.turn
  pub turns : AreTurns n.turns
  pub axis_rate : AreRates n.axis_rate
  pub jump : n.jump ≤ 1000000
  pub ring : IsRing n.ring
  pub places : ArePlacesInFile n

-- the steps of such places
pub record AreStepsWithin (scale : Scale) (steps : Steps) : Type 0 where
  pub travel : AreTravels scale steps.travel
  pub start : AreStops steps.travel steps.start
  pub home28 : AreStops steps.travel steps.home28
  pub home30 : AreStops steps.travel steps.home30

-- both ends of a travel are within 1,000 mm of zero, as in a file with rates
pub record IsNear (least greatest : ℤ) : Type 0 where
  pub low : unsigned_abs least ≤ 1000000000
  pub high : unsigned_abs greatest ≤ 1000000000

pub record AreNear (n : MachineNumbers) : Type 0 where
  pub x : IsNear n.low.x n.high.x
  pub y : IsNear n.low.y n.high.y
  pub z : IsNear n.low.z n.high.z

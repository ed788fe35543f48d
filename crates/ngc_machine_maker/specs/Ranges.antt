-- The ranges of the numbers of a machine file.
use Rattle.std.specs.Prelude.{ℕ, ◌<◌, ◌≤◌, ◌*◌}
use Rattle.ngc_machine_maker.specs.declared.figures.PerAxis.{PerAxis}
use Rattle.ngc_machine_maker.specs.declared.rates.Rates.{Rates}
use Rattle.ngc_machine_maker.specs.declared.scale.Scale.{Scale}

-- a step of 500 to 50,000 nm, and the motor's as a ratio of numbers up to 2^40
pub record IsScale (scale : Scale) : Type 0 where
  pub some_steps : 0 < scale.steps
  pub greatest_steps : scale.steps ≤ 1099511627776
  pub some_length : 0 < scale.per
  pub greatest_length : scale.per ≤ 1099511627776
  pub least : 500 ≤ scale.step
  pub greatest : scale.step ≤ 50000

-- a rate, a change of the rate, or a number of ticks per second
pub record IsRate (rate : ℕ) : Type 0 where
  pub least : 1 ≤ rate
  pub greatest : rate ≤ 1000000

-- a rate of each axis
pub record AreRates (rates : PerAxis ℕ) : Type 0 where
  pub x : IsRate rates.x
  pub y : IsRate rates.y
  pub z : IsRate rates.z

-- the bound of rates on arcs
pub record IsTurn (turn : ℕ) : Type 0 where
  pub least : 1 ≤ turn
  pub greatest : turn ≤ 1000000000000

pub record AreTurns (turns : PerAxis ℕ) : Type 0 where
  pub x : IsTurn turns.x
  pub y : IsTurn turns.y
  pub z : IsTurn turns.z

pub record AreAllRates (rates : Rates) : Type 0 where
  pub ticks : IsRate rates.ticks
  pub axis_rate : AreRates rates.axis_rate
  pub max_rate : IsRate rates.max_rate
  pub change : IsRate rates.change
  pub changes : AreRates rates.changes
  pub corner : IsRate rates.corner
  pub turn : IsTurn rates.turn
  pub turns : AreTurns rates.turns
  pub jump : rates.jump ≤ 1000000

-- the greatest number of loaded commands that are not done
pub record IsRing (ring : ℕ) : Type 0 where
  pub least : 16 ≤ ring
  pub greatest : ring ≤ 1024

-- a travel in steps: at least one, and at most 3,999 mm
pub record IsTravel (scale : Scale) (steps : ℕ) : Type 0 where
  pub some : 1 ≤ steps
  pub greatest : steps * scale.step ≤ 3999000000

pub record AreTravels (scale : Scale) (travel : PerAxis ℕ) : Type 0 where
  pub x : IsTravel scale travel.x
  pub y : IsTravel scale travel.y
  pub z : IsTravel scale travel.z

-- a place in a travel, both in steps from zero
pub record IsStop (travel stop : ℕ) : Type 0 where
  pub within : stop ≤ travel

pub record AreStops (travel stops : PerAxis ℕ) : Type 0 where
  pub x : IsStop travel.x stops.x
  pub y : IsStop travel.y stops.y
  pub z : IsStop travel.z stops.z

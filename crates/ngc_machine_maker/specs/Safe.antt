-- The safe side: the limits in the file, converted back, are at most the requested ones.
use Rattle.std.specs.Prelude.{ℕ, ◌≤◌, ◌*◌, Bool}
use Rattle.ngc_machine_maker.specs.declared.figures.PerAxis.{PerAxis}
use Rattle.ngc_machine_maker.specs.declared.figures.Speed.{Speed}
use Rattle.ngc_machine_maker.specs.declared.figures.Acceleration.{Acceleration}
use Rattle.ngc_machine_maker.specs.declared.figures.Figures.{Figures}
use Rattle.ngc_machine_maker.specs.declared.figures.Length.{Length}
use Rattle.ngc_machine_maker.specs.declared.rates.Rates.{Rates}
use Rattle.ngc_machine_maker.specs.declared.scale.Scale.{Scale}
use Rattle.ngc_machine_maker.specs.Formulas.{arcs_by, arcs_of, diagonal_turns, jump_speed}

-- a number of steps is no longer than an amount of nanometres over a divisor, with the file's step
-- and with the motor's
pub record IsNoMore (scale : Scale) (steps amount divisor : ℕ) : Type 0 where
  pub by_file : steps * (divisor * scale.step) ≤ amount
  pub by_motor : steps * (divisor * scale.per) ≤ amount * scale.steps

-- a rate is no faster than a speed
abbrev pub IsNoFaster : Scale → ℕ → ℕ → Speed → Type 0
IsNoFaster scale ticks rate speed =
    IsNoMore scale rate (speed.nanometres_a_minute * 1000000) (60 * ticks)

-- a change of the rate is no greater than an acceleration
abbrev pub IsNoGreaterAcceleration : Scale → ℕ → ℕ → ℕ → Type 0
IsNoGreaterAcceleration scale ticks change acceleration =
    IsNoMore scale change (acceleration * 1000000) (ticks * ticks)

-- the same for an arc where it runs diagonally, at the rate that is aimed at
abbrev pub IsNoHarderOnArcs : Bool → Scale → ℕ → ℕ → ℕ → Type 0
IsNoHarderOnArcs by_place scale ticks turn acceleration =
    IsNoMore scale turn (acceleration * 1000000000000)
    (diagonal_turns by_place * (ticks * ticks))

pub record AreNoFaster (scale : Scale) (ticks : ℕ) (rates : PerAxis ℕ) (feed : PerAxis Speed)
    : Type 0 where
  pub x : IsNoFaster scale ticks rates.x feed.x
  pub y : IsNoFaster scale ticks rates.y feed.y
  pub z : IsNoFaster scale ticks rates.z feed.z

abbrev pub IsFollowedBy : Scale → ℕ → ℕ → Acceleration → Type 0
IsFollowedBy scale ticks change a = IsNoGreaterAcceleration scale ticks change a.nanometres_a_second_squared

pub record AreFollowedBy (scale : Scale) (ticks : ℕ) (changes : PerAxis ℕ)
    (accelerations : PerAxis Acceleration) : Type 0 where
  pub x : IsFollowedBy scale ticks changes.x accelerations.x
  pub y : IsFollowedBy scale ticks changes.y accelerations.y
  pub z : IsFollowedBy scale ticks changes.z accelerations.z

-- on arcs in the planes of an axis: no harder than the acceleration specified, or than its own
abbrev pub IsTurnedBy : Scale → ℕ → ℕ → Acceleration → Figures → Type 0
IsTurnedBy scale ticks turn a f =
    IsNoHarderOnArcs f.arc_feed scale ticks turn (arcs_by a.nanometres_a_second_squared f.arcs)

pub record AreTurnedBy (scale : Scale) (ticks : ℕ) (turns : PerAxis ℕ) (f : Figures) : Type 0 where
  pub x : IsTurnedBy scale ticks turns.x f.acceleration.x f
  pub y : IsTurnedBy scale ticks turns.y f.acceleration.y f
  pub z : IsTurnedBy scale ticks turns.z f.acceleration.z f

-- rates, changes and turns are no greater than requested, on each axis
pub record AreSafe (scale : Scale) (rates : Rates) (f : Figures) : Type 0 where
  pub feed : AreNoFaster scale rates.ticks rates.axis_rate f.feed
  pub corner : IsNoFaster scale rates.ticks rates.corner f.corner
  pub jump : IsNoFaster scale rates.ticks rates.jump (jump_speed f)
  pub x_follows : IsFollowedBy scale rates.ticks rates.change f.acceleration.x
  pub y_follows : IsFollowedBy scale rates.ticks rates.change f.acceleration.y
  pub z_follows : IsFollowedBy scale rates.ticks rates.change f.acceleration.z
  -- the change of each axis by itself
  pub changes : AreFollowedBy scale rates.ticks rates.changes f.acceleration
  pub arcs : IsNoHarderOnArcs f.arc_feed scale rates.ticks rates.turn (arcs_of f)
  -- and the turn of each axis by itself
  pub turns : AreTurnedBy scale rates.ticks rates.turns f

-- a number of steps is no longer than a length
abbrev pub IsNoFarther : Scale → ℕ → Length → Type 0
IsNoFarther scale steps length = IsNoMore scale steps length.nanometres 1

pub record AreNoFarther (scale : Scale) (steps : PerAxis ℕ) (travel : PerAxis Length) : Type 0 where
  pub x : IsNoFarther scale steps.x travel.x
  pub y : IsNoFarther scale steps.y travel.y
  pub z : IsNoFarther scale steps.z travel.z

-- Motions in memory that is allocated once. Our own.
use Rattle.std.specs.Prelude.{ℕ, ◌+◌, ◌-◌, ◌≤◌, List, length, drop, reverse, vec_capacity}
use Rattle.std.specs.List.{All}
use Rattle.ngc_braking.specs.declared.leg.Leg.{Leg}
use Rattle.ngc_braking.specs.declared.outlook.Outlook.{Outlook}
use Rattle.ngc_braking.specs.Leg.{IsLeg}
use Rattle.ngc_braking.specs.Outlook.{IsOutlook}

-- the motions, in order, and the greatest number of them
pub record Waiting : Type 0 where
  pub legs : List Leg
  pub room : ℕ

-- those before the first are done; there is memory for twice the greatest number
pub record IsQueue {A : Type 0} (first room : ℕ) (slots : List Leg) (capacity : ℕ)
    (outlook : Outlook A) : Type 0 where
  pub within : first ≤ length slots
  pub few : length slots - first ≤ room
  pub each : All IsLeg (drop first slots)
  pub memory : room + room ≤ capacity
  pub ahead : room ≤ vec_capacity outlook.later
  pub seen : IsOutlook (drop first slots) outlook.near (reverse outlook.later.items) outlook.far

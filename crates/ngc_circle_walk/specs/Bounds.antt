-- The two bounds of the distance from the centre to a wheel's points, which each move keeps. Our
-- own.
use Rattle.std.specs.Prelude.{ℕ, ◌+◌, ◌*◌, ◌<◌, ◌≤◌}
use Rattle.ngc_circle_walk.specs.declared.spoke.Spoke.{Spoke}
use Rattle.ngc_circle_walk.specs.Wheel.{square}

-- the squared distance is at most the limit plus a step's square; less than a step before the next
-- half axis it is at most the limit
pub record IsBelow (g limit : ℕ) (s : Spoke) : Type 0 where
  pub all : square s.x s.y ≤ limit + g * g
  pub by_axis : s.x < g → square s.x s.y ≤ limit

-- the squared distance is at least v's square less a step's square; less than a step before the
-- next half axis it is at least v's square
pub record IsAbove (g v : ℕ) (s : Spoke) : Type 0 where
  pub all : v * v ≤ square s.x s.y + g * g
  pub by_axis : s.x < g → v * v ≤ square s.x s.y

-- The sequence of a wheel's points, and its properties. Our own.
use Rattle.std.specs.Prelude.{◌≡◌, ℕ, zero, suc, ◌+◌, ◌-◌, ◌*◌, ◌/◌, ◌<◌, ◌≤◌, pos, ◌≤ℤ◌}
use Rattle.ngc_fixed_length.specs.Places.{cross}
use Rattle.ngc_circle_walk.specs.declared.spoke.Roll.{Roll}
use Rattle.ngc_circle_walk.specs.declared.spoke.Roll.TheVariants.{Outward, Diagonal, Inward, Over}
use Rattle.ngc_circle_walk.specs.declared.spoke.Spoke.{Spoke}
use Rattle.ngc_circle_walk.specs.Around.{way_to}
use Rattle.ngc_circle_walk.specs.Wheel.{square, rolled, IsRoll, next_roll}

-- the number of quadrants passed after a move from the n-th
abbrev pub quadrants_of : ℕ → Roll → ℕ
quadrants_of n Over = n + 1
quadrants_of n Outward = n
quadrants_of n Diagonal = n
quadrants_of n Inward = n

-- points 0 to n of a wheel, and the number of quadrants passed at each
pub record IsRolling (g limit n : ℕ) (at : ℕ → Spoke) (quadrant : ℕ → ℕ) : Type 0 where
  pub starts : quadrant 0 ≡ 0
  pub rolls : (k : ℕ) → k < n → (r : Roll) × IsRoll g limit (at k) r ×
      (at (k + 1) ≡ rolled g r (at k)) × (quadrant (k + 1) ≡ quadrants_of (quadrant k) r)

-- the points to which the rule leads from s: the k-th, and the number of quadrants passed there
unfoldable pub spoke_at : ℕ → ℕ → Spoke → ℕ → Spoke
spoke_at g limit s zero = s
spoke_at g limit s (suc k) =
    rolled g (next_roll g limit (spoke_at g limit s k)) (spoke_at g limit s k)

unfoldable pub quadrant_at : ℕ → ℕ → Spoke → ℕ → ℕ
quadrant_at g limit s zero = 0
quadrant_at g limit s (suc k) =
    quadrants_of (quadrant_at g limit s k) (next_roll g limit (spoke_at g limit s k))

-- any number of them are the points of a wheel
abbrev pub RollsFromAnywhere : Type 0
RollsFromAnywhere = (g limit : ℕ) (s : Spoke) (n : ℕ) →
    IsRolling g limit n (spoke_at g limit s) (quadrant_at g limit s)

-- the point is at most d from the circle of radius r about the centre, inward or outward
pub record IsNearCircle (r d : ℕ) (s : Spoke) : Type 0 where
  pub inner : (r - d) * (r - d) ≤ square s.x s.y
  pub outer : square s.x s.y ≤ (r + d) * (r + d)

-- points 0 to n of a wheel whose limit is two fifths of a step beyond the circle of radius r. The
-- radius is at least eight steps, and the wheel begins within four fifths of a step of the circle
pub record GoesRound (g r n : ℕ) (at : ℕ → Spoke) (quadrant : ℕ → ℕ) : Type 0 where
  pub step : 500 ≤ g
  pub large : 8 * g ≤ r
  pub rolling : IsRolling g ((r + 2 * g / 5) * (r + 2 * g / 5)) n at quadrant
  pub first : IsNearCircle r (4 * g / 5) (at 0)

-- such a wheel stays within a step of the circle
abbrev pub StaysNear : Type 0
StaysNear = (g r n : ℕ) (at : ℕ → Spoke) (quadrant : ℕ → ℕ) → GoesRound g r n at quadrant →
    (k : ℕ) → k ≤ n → IsNearCircle r g (at k)

-- it passes m quadrants in at most 2*(m + 1)*(r + 2*g)/g moves
abbrev pub PassesQuadrants : Type 0
PassesQuadrants = (g r n : ℕ) (at : ℕ → Spoke) (quadrant : ℕ → ℕ) → GoesRound g r n at quadrant →
    (k m : ℕ) → k ≤ n → quadrant k ≤ m → k * g ≤ 2 * (r + 2 * g) * (m + 1)

-- no wheel turns back: the cross product of a move's ends about the centre is at least 0
abbrev pub NeverTurnsBack : Type 0
NeverTurnsBack = (g limit n : ℕ) (at : ℕ → Spoke) (quadrant : ℕ → ℕ) →
    IsRolling g limit n at quadrant → (k : ℕ) → k < n →
    pos 0 ≤ℤ cross (way_to (at k)) (way_to (at (k + 1)))

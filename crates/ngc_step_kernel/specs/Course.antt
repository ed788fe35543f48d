-- The path of an arc over the grid of its plane (its course): straight to the joint, to the entry,
-- round with the wheel, and straight to the end.
use Rattle.std.specs.Prelude.{◌≡◌, ℕ, zero, suc, ◌+◌, ◌-◌, ◌<◌, ◌≤◌, nat_le, if◌then◌else◌}
use Rattle.ngc_circle_walk.specs.declared.spoke.Spoke.{Spoke}
use Rattle.ngc_circle_walk.specs.Wheel.{next_roll, IsSmall}
use Rattle.ngc_circle_walk.specs.Rolling.{spoke_at}
use Rattle.ngc_step_kernel.specs.declared.plan.Plan.{Plan}
use Rattle.ngc_step_kernel.specs.declared.spot.Spot.{Spot}
use Rattle.ngc_step_kernel.specs.declared.spot.PlaneMove.{PlaneMove}
use Rattle.ngc_step_kernel.specs.Spots.{IsSpot, roll_move, spot_moved, straight_at, straight_moves}

-- ---- the wheel

-- the wheel's move k, in the plane
abbrev pub wheel_move : ℕ → ℕ → Spoke → ℕ → PlaneMove
wheel_move g limit s k =
    roll_move (next_roll g limit (spoke_at g limit s k)) (spoke_at g limit s k).quadrant

-- the grid point to which k of the wheel's moves lead from p
unfoldable pub round_at : ℕ → ℕ → Spoke → Spot → ℕ → Spot
round_at g limit s p zero = p
round_at g limit s p (suc k) = spot_moved (round_at g limit s p k) (wheel_move g limit s k)

-- ---- the course

abbrev pub rounded : Plan → ℕ → Spot
rounded p k = round_at p.step p.limit p.first p.entry k

-- the wheel's last point
abbrev pub last_of : Plan → Spot
last_of p = rounded p (p.rolled - p.entered)

-- point k
unfoldable pub course_at : Plan → ℕ → Spot
course_at p k =
    if nat_le k p.joined then straight_at p.start p.joint k
    else (if nat_le k p.entered then straight_at p.joint p.entry (k - p.joined)
    else (if nat_le k p.rolled then rounded p (k - p.entered)
    else straight_at (last_of p) p.end (k - p.rolled)))

-- counts and coordinates of a course
pub record IsPlan (p : Plan) : Type 0 where
  pub some_step : 0 < p.step
  pub short_step : p.step ≤ 50000
  pub joined : p.joined ≡ straight_moves p.start p.joint
  pub entered : p.entered ≡ p.joined + straight_moves p.joint p.entry
  pub rolled : p.entered ≤ p.rolled
  pub moves : p.moves ≡ p.rolled + straight_moves (last_of p) p.end
  pub few : p.moves ≤ 200000000
  pub start : IsSpot p.start
  pub joint : IsSpot p.joint
  pub end : IsSpot p.end
  pub round : (k : ℕ) → k ≤ p.rolled - p.entered → IsSpot (rounded p k)
  pub small : (k : ℕ) → k ≤ p.rolled - p.entered → IsSmall (spoke_at p.step p.limit p.first k)

-- the state of a course at point k: the point, and the wheel's point while the wheel moves
pub record IsCourseAt (p : Plan) (k : ℕ) (at : Spot) (wheel : Spoke) (pace rim : ℕ) : Type 0 where
  pub plan : IsPlan p
  pub done : k ≤ p.moves
  pub here : at ≡ course_at p k
  pub spoke : k ≤ p.rolled → wheel ≡ spoke_at p.step p.limit p.first (k - p.entered)
  pub paces : pace ≡ p.step
  pub rims : rim ≡ p.limit

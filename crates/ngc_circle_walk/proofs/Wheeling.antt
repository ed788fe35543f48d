-- The sequence of points to which the rule leads.
use Rattle.std.proofs.Common.{◌≡◌, ℕ, suc, ◌+◌, refl, subst, arith}
use Rattle.ngc_circle_walk.specs.declared.spoke.Spoke.{Spoke}
use Rattle.ngc_circle_walk.specs.Wheel.{rolled, next_roll}
use Rattle.ngc_circle_walk.specs.Rolling.{quadrants_of, spoke_at, quadrant_at, RollsFromAnywhere}
use Rattle.ngc_circle_walk.proofs.OneRoll.{next_is_due}

pub next_spoke : (g limit : ℕ) (s : Spoke) (k : ℕ) → spoke_at g limit s (suc k) ≡ rolled g (next_roll g limit (spoke_at g limit s k)) (spoke_at g limit s k)
unfolding spoke_at
next_spoke g limit s k = refl

pub first_spoke : (g limit : ℕ) (s : Spoke) → spoke_at g limit s 0 ≡ s
unfolding spoke_at
first_spoke g limit s = refl

pub next_quadrant : (g limit : ℕ) (s : Spoke) (k : ℕ) → quadrant_at g limit s (suc k)
    ≡ quadrants_of (quadrant_at g limit s k) (next_roll g limit (spoke_at g limit s k))
unfolding quadrant_at
next_quadrant g limit s k = refl

pub first_quadrant : (g limit : ℕ) (s : Spoke) → quadrant_at g limit s 0 ≡ 0
unfolding quadrant_at
first_quadrant g limit s = refl

pub wheel_rolls : RollsFromAnywhere
wheel_rolls g limit s n = record {
  starts = first_quadrant g limit s;
  rolls = λ k _. (let e : suc k ≡ k + 1 = omega arith in (
    next_roll g limit (spoke_at g limit s k),
    next_is_due g limit (spoke_at g limit s k),
    subst (λ t. spoke_at g limit s t ≡ rolled g (next_roll g limit (spoke_at g limit s k)) (spoke_at g limit s k)) e (next_spoke g limit s k),
    subst (λ t. quadrant_at g limit s t ≡ quadrants_of (quadrant_at g limit s k) (next_roll g limit (spoke_at g limit s k))) e (next_quadrant g limit s k),
  ));
}

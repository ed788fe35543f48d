-- The sequence of a wheel's points, by recursion.
use Rattle.std.proofs.Common.{◌≡◌, ℕ, suc, ◌+◌, arith, subst}
use Rattle.ngc_circle_walk.specs.declared.spoke.Spoke.{Spoke}
use Rattle.ngc_circle_walk.specs.Wheel.{next_roll, rolled}
use Rattle.ngc_circle_walk.specs.Rolling.{spoke_at}
use Rattle.ngc_circle_walk.proofs.Wheeling.{next_spoke}

pub spoke_on : (g limit : ℕ) (s : Spoke) (k : ℕ) → spoke_at g limit s (k + 1) ≡ rolled g (next_roll g limit (spoke_at g limit s k)) (spoke_at g limit s k)
spoke_on g limit s k =
    let e : suc k ≡ k + 1 = omega arith in
    subst (λ t. spoke_at g limit s t ≡ rolled g (next_roll g limit (spoke_at g limit s k)) (spoke_at g limit s k)) e (next_spoke g limit s k)

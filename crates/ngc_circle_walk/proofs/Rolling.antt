-- The sequence of a wheel's points.
use Rattle.std.proofs.Common.{◌≡◌, ℕ, zero, suc, ◌+◌, ◌*◌, ◌≤◌, subst, arith}
use Rattle.std.proofs.Math.Nat.{mul-le-mul_left}
use Rattle.ngc_circle_walk.specs.declared.spoke.Spoke.{Spoke}
use Rattle.ngc_circle_walk.specs.Rolling.{IsRolling}
use Rattle.ngc_circle_walk.proofs.Rim.{rolls_below, rolls_above}
use Rattle.ngc_circle_walk.specs.Bounds.{IsBelow, IsAbove}
use Rattle.ngc_circle_walk.proofs.Rays.{from_squares}
use Rattle.ngc_circle_walk.proofs.WheelProgress.{gone, goes_on}

pub all_below : (g limit big n : ℕ) (at : ℕ → Spoke) (quadrant : ℕ → ℕ) (k : ℕ) → IsRolling g limit n at quadrant → limit ≤ big → 2 * (g * g) ≤ big →
    IsBelow g big (at 0) → k ≤ n → IsBelow g big (at k)
all_below g limit big n at quadrant zero way more room first le = first
all_below g limit big n at quadrant (suc k) way more room first le =
    let e : k + 1 ≡ suc k = omega arith in
    let step = way.rolls k (omega arith) in
    let here = all_below g limit big n at quadrant k way more room first (omega arith) in
    subst (λ t. IsBelow g big (at t)) e (rw step.2 (rolls_below g limit big (at k) step.0 more room here step.1))

pub all_above : (g v limit n : ℕ) (at : ℕ → Spoke) (quadrant : ℕ → ℕ) (k : ℕ) → IsRolling g limit n at quadrant → (v + g) * (v + g) ≤ limit →
    2 * (g * g) ≤ v * v → IsAbove g v (at 0) → k ≤ n → IsAbove g v (at k)
all_above g v limit n at quadrant zero way more room first le = first
all_above g v limit n at quadrant (suc k) way more room first le =
    let e : k + 1 ≡ suc k = omega arith in
    let step = way.rolls k (omega arith) in
    let here = all_above g v limit n at quadrant k way more room first (omega arith) in
    subst (λ t. IsAbove g v (at t)) e (rw step.2 (rolls_above g v limit (at k) step.0 more room here step.1))

-- a point's coordinates are at most the limit's root plus a step
pub within_reach : (g u : ℕ) (s : Spoke) → IsBelow g (u * u) s → (s.x ≤ u + g) × (s.y ≤ u + g)
within_reach g u s below =
    let a : s.x * s.x ≤ (u + g) * (u + g) = omega (arith, below.all) in
    let b : s.y * s.y ≤ (u + g) * (u + g) = omega (arith, below.all) in
    (from_squares s.x (u + g) a, from_squares s.y (u + g) b)

-- k moves lead at least k steps further
pub far_on : (g u limit n : ℕ) (at : ℕ → Spoke) (quadrant : ℕ → ℕ) (k : ℕ) → IsRolling g limit n at quadrant → limit ≤ u * u → 2 * (g * g) ≤ u * u →
    IsBelow g (u * u) (at 0) → k ≤ n →
    gone (u + g) 0 (at 0) + k * g ≤ gone (u + g) (quadrant k) (at k)
far_on g u limit n at quadrant zero way bound room first le = let e = way.starts in rw e (omega arith)
far_on g u limit n at quadrant (suc k) way bound room first le =
    let e : k + 1 ≡ suc k = omega arith in
    let step = way.rolls k (omega arith) in
    let here = all_below g limit (u * u) n at quadrant k way bound room first (omega arith) in
    let small = within_reach g u (at k) here in
    let before = far_on g u limit n at quadrant k way bound room first (omega arith) in
    let more = goes_on g limit (u + g) (quadrant k) (at k) step.0 small.0 small.1 step.1 in
    let after : gone (u + g) 0 (at 0) + (k + 1) * g ≤ gone (u + g) (quadrant (k + 1)) (at (k + 1)) = rw (step.2, step.3) (omega (arith, before, more)) in
    subst (λ t. gone (u + g) 0 (at 0) + t * g ≤ gone (u + g) (quadrant t) (at t)) e after

-- so the wheel soon passes any number of quadrants
pub soon_past : (g u limit n : ℕ) (at : ℕ → Spoke) (quadrant : ℕ → ℕ) (k q : ℕ) → IsRolling g limit n at quadrant → limit ≤ u * u → 2 * (g * g) ≤ u * u →
    IsBelow g (u * u) (at 0) → k ≤ n → quadrant k ≤ q →
    k * g ≤ 2 * (u + g) * (q + 1)
soon_past g u limit n at quadrant k q way bound room first le few =
    let far = far_on g u limit n at quadrant k way bound room first le in
    let small = within_reach g u (at k) (all_below g limit (u * u) n at quadrant k way bound room first le) in
    let a = mul-le-mul_left (2 * (u + g)) few in
    omega (arith, far, small.0, small.1, a)

-- The laws on a wheel's points, from the lemmas on its moves.
use Rattle.std.proofs.Common.{◌≡◌, ℕ, ◌+◌, ◌-◌, ◌*◌, ◌/◌, ◌≤◌, pos, ◌≤ℤ◌, sym, subst, arith}
use Rattle.std.proofs.lemmas.Int.{ints}
use Rattle.std.proofs.Math.Nat.{mul-le-mul_left}
use Rattle.ngc_fixed_length.specs.Places.{cross}
use Rattle.ngc_circle_walk.specs.declared.spoke.Roll.{Roll}
use Rattle.ngc_circle_walk.specs.declared.spoke.Roll.TheVariants.{Outward, Diagonal, Inward, Over}
use Rattle.ngc_circle_walk.specs.declared.spoke.Spoke.{Spoke}
use Rattle.ngc_circle_walk.specs.Around.{way_to}
use Rattle.ngc_circle_walk.specs.Wheel.{rolled, IsRoll}
use Rattle.ngc_circle_walk.specs.Rolling.{IsNearCircle, GoesRound, StaysNear, PassesQuadrants, NeverTurnsBack}
use Rattle.ngc_circle_walk.proofs.Rim.{square_le}
use Rattle.ngc_circle_walk.specs.Bounds.{IsBelow, IsAbove}
use Rattle.ngc_circle_walk.proofs.NearEnd.{IsRim, limit_of}
use Rattle.ngc_circle_walk.proofs.Rolling.{all_below, all_above, soon_past}
use Rattle.ngc_circle_walk.proofs.Band.{not_too_far, not_too_near}
use Rattle.ngc_circle_walk.proofs.WheelProgress.{turns_on}
use Rattle.ngc_circle_walk.proofs.QuadrantTurns.{cross_same, over_turns}

-- ---- the sizes of a circle of radius q + 1

pub rim_of : (g q : ℕ) → 500 ≤ g → 8 * g ≤ q + 1 → IsRim g q (2 * g / 5) (g / 2) (4 * g / 5) (q + 1 - 4 * g / 5)
rim_of g q step large = record {
  step = step;
  far = large;
  h_low = omega arith;
  h_high = omega arith;
  k_low = omega arith;
  k_high = omega arith;
  l_low = omega arith;
  l_high = omega arith;
  inner = omega arith;
}

-- ---- within a step

starts_below : (g q : ℕ) (s : Spoke) → IsNearCircle (q + 1) (4 * g / 5) s → IsBelow g (limit_of q (4 * g / 5)) s
starts_below g q s near = record { all = omega (arith, near.outer); by_axis = λ _. near.outer }

starts_above : (g q : ℕ) (s : Spoke) → IsNearCircle (q + 1) (4 * g / 5) s → IsAbove g (q + 1 - 4 * g / 5) s
starts_above g q s near = record { all = omega (arith, near.inner); by_axis = λ _. near.inner }

record IsRoomy (g q h l v : ℕ) : Type 0 where
  limit : limit_of q h ≤ limit_of q l
  outer : 2 * (g * g) ≤ limit_of q l
  bound : (v + g) * (v + g) ≤ limit_of q h
  inner : 2 * (g * g) ≤ v * v

roomy : (g q h k l v : ℕ) → IsRim g q h k l v → IsRoomy g q h l v
roomy g q h k l v r =
    let a = square_le (q + 1 + h) (q + 1 + l) (omega (arith, r.h_high, r.l_low, r.step)) in
    let b = square_le (2 * g) (q + 1 + l) (omega (arith, r.far)) in
    let c = square_le (v + g) (q + 1 + h) (omega (arith, r.inner, r.h_low, r.l_low, r.step)) in
    let d = square_le (2 * g) v (omega (arith, r.inner, r.far, r.l_high)) in
    record { limit = a; outer = omega (arith, b); bound = c; inner = omega (arith, d) }

near_on : (g q n : ℕ) (at : ℕ → Spoke) (quadrant : ℕ → ℕ) (k : ℕ) → GoesRound g (q + 1) n at quadrant → k ≤ n → IsNearCircle (q + 1) g (at k)
near_on g q n at quadrant k way le =
    let rim = rim_of g q way.step way.large in
    let room = roomy g q (2 * g / 5) (g / 2) (4 * g / 5) (q + 1 - 4 * g / 5) rim in
    let below = all_below g (limit_of q (2 * g / 5)) (limit_of q (4 * g / 5)) n at quadrant k way.rolling room.limit room.outer
    (starts_below g q (at 0) way.first) le in
    let above = all_above g (q + 1 - 4 * g / 5) (limit_of q (2 * g / 5)) n at quadrant k way.rolling room.bound room.inner
    (starts_above g q (at 0) way.first) le in
    record {
      inner = not_too_near g q (2 * g / 5) (g / 2) (4 * g / 5) (q + 1 - 4 * g / 5) (at k).x (at k).y (q + 1) rim above.all (omega arith);
      outer = not_too_far g q (2 * g / 5) (g / 2) (4 * g / 5) (q + 1 - 4 * g / 5) (at k).x (at k).y (q + 1) rim below.all (omega arith);
    }

-- a radius of eight steps is above 0
pub one_less : (g r : ℕ) → 500 ≤ g → 8 * g ≤ r → r - 1 + 1 ≡ r
one_less g r step large = omega arith

pub stays_near : StaysNear
stays_near g r n at quadrant way k le =
    let e = one_less g r way.step way.large in
    subst (λ t. IsNearCircle t g (at k)) e (near_on g (r - 1) n at quadrant k (subst (λ t. GoesRound g t n at quadrant) (sym e) way) le)

-- ---- round the centre

round_on : (g q n : ℕ) (at : ℕ → Spoke) (quadrant : ℕ → ℕ) (k m : ℕ) → GoesRound g (q + 1) n at quadrant → k ≤ n → quadrant k ≤ m →
    k * g ≤ 2 * (q + 1 + 4 * g / 5 + g) * (m + 1)
round_on g q n at quadrant k m way le few =
    let rim = rim_of g q way.step way.large in
    let room = roomy g q (2 * g / 5) (g / 2) (4 * g / 5) (q + 1 - 4 * g / 5) rim in
    soon_past g (q + 1 + 4 * g / 5) (limit_of q (2 * g / 5)) n at quadrant k m way.rolling room.limit room.outer (starts_below g q (at 0) way.first) le few

wider : (k g r l m : ℕ) → l ≤ g → k * g ≤ 2 * (r + l + g) * m → k * g ≤ 2 * (r + 2 * g) * m
wider k g r l m le h = omega (arith, mul-le-mul_left m le)

pub passes_quadrants : PassesQuadrants
passes_quadrants g r n at quadrant way k m le few =
    let e = one_less g r way.step way.large in
    let a = round_on g (r - 1) n at quadrant k m (subst (λ t. GoesRound g t n at quadrant) (sym e) way) le few in
    let b : k * g ≤ 2 * (r + 4 * g / 5 + g) * (m + 1) = rw e at a in
    wider k g r (4 * g / 5) (m + 1) (omega arith) b

-- ---- no turning back

in_quadrant : (s : Spoke) (x y : ℕ) → s.y * x ≤ s.x * y → pos 0 ≤ℤ cross (way_to s) (way_to (record { quadrant = s.quadrant; x = x; y = y }))
in_quadrant s x y h = rw (cross_same s.quadrant s.x s.y x y) (omega (arith, ints, h))

turns : (g limit : ℕ) (s : Spoke) (r : Roll) → IsRoll g limit s r → pos 0 ≤ℤ cross (way_to s) (way_to (rolled g r s))
turns g limit s Outward roll = in_quadrant s s.x (s.y + g) (turns_on g limit s Outward roll.0 roll)
turns g limit s Diagonal roll = in_quadrant s (s.x - g) (s.y + g) (turns_on g limit s Diagonal roll.0 roll)
turns g limit s Inward roll = in_quadrant s (s.x - g) s.y (turns_on g limit s Inward roll.0 roll)
turns g limit s Over roll = rw (over_turns s.quadrant g s.x s.y (omega (arith, roll))) (omega (arith, ints))

pub never_turns_back : NeverTurnsBack
never_turns_back g limit n at quadrant way k less =
    let step = way.rolls k less in
    subst (λ (s : Spoke). pos 0 ≤ℤ cross (way_to (at k)) (way_to s)) (sym step.2) (turns g limit (at k) step.0 step.1)

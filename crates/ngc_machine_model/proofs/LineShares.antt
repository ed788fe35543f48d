-- A position of a path that follows a line is within one and a half steps of its share of the way
-- between the grid points of the ends.
use Rattle.std.proofs.Common.{◌≡◌, ℕ, ◌+◌, ◌-◌, ◌*◌, ◌<◌, ◌≤◌, ◌⊎◌, inl, inr, ap, subst, sym, arith, ℤ, pos, ◌+ℤ◌, ◌-ℤ◌, ◌*ℤ◌, negsuc}
use Rattle.std.proofs.Common.{neg_ℤ, unsigned_abs}
use Rattle.std.proofs.lemmas.Int.{ints, by_lt_z}
use Rattle.std.proofs.Math.Nat.{mul-le-mul_left, le_of_mul-le-mul_left}
use borrow.Author.Differences.{up, down, neg_is}
use Rattle.ngc_fixed_length.specs.Length.{IsStep}
use Rattle.ngc_fixed_length.specs.Grid.{distance}
use Rattle.ngc_fixed_length.specs.Rounding.{nearest}
use Rattle.ngc_fixed_length.specs.LinePath.{FollowsLine}
use Rattle.ngc_fixed_length.proofs.Nearest.{nearest_near}
use Rattle.ngc_step_kernel.proofs.LineLemmas.{scale-sum}

-- a point within a step of its part of the line is within one and a half of its part of the grid line
near_core : (m k s : ℕ) (start_off end_off gone way from_b b_to_e : ℤ) → 2 * unsigned_abs start_off ≤ s → 2 * unsigned_abs end_off ≤ s →
    distance (pos k *ℤ b_to_e) (pos (m + k) *ℤ from_b) ≤ (m + k) * s → from_b ≡ start_off +ℤ gone → b_to_e ≡ (way +ℤ start_off) -ℤ end_off →
    2 * distance (pos k *ℤ way) (pos (m + k) *ℤ gone) ≤ 3 * ((m + k) * s)
near_core m k s β ε q d v w hβ hε hq ev ew =
    let β1 : 2 * up β ≤ 2 * down β + s = omega (arith, ints) in
    let β2 : 2 * down β ≤ 2 * up β + s = omega (arith, ints) in
    let ε1 : 2 * up ε ≤ 2 * down ε + s = omega (arith, ints) in
    let ε2 : 2 * down ε ≤ 2 * up ε + s = omega (arith, ints) in
    let v1 : up v + down β + down q ≡ down v + up β + up q = omega (arith, ints) in
    let w1 : up w + down d + down β + up ε ≡ down w + up d + up β + down ε = omega (arith, ints) in
    let mβ1 = mul-le-mul_left m β1 in let mβ2 = mul-le-mul_left m β2 in
    let kε1 = mul-le-mul_left k ε1 in let kε2 = mul-le-mul_left k ε2 in
    let nv = ap (λ t. (m + k) * t) v1 in
    let kw = ap (λ t. k * t) w1 in
    omega (arith, ints)

neg_part : (k x : ℕ) → pos k *ℤ neg_ℤ (pos x) ≡ neg_ℤ (pos (k * x))
neg_part k x = let e = neg_is (pos x) in omega (arith, ints, ap (λ t. k * t) e.0, ap (λ t. k * t) e.1)

neg_scaled : (q s : ℕ) → neg_ℤ (pos q) *ℤ pos s ≡ neg_ℤ (pos (q * s))
neg_scaled q s = let e = neg_is (pos q) in omega (arith, ints, ap (λ t. t * s) e.0, ap (λ t. t * s) e.1)

-- q and d nanometres in the same direction
AreSigned : ℕ → ℕ → ℤ → ℤ → Type 0
AreSigned q d gone way = ((gone ≡ pos q) × (way ≡ pos d)) ⊎ ((gone ≡ neg_ℤ (pos q)) × (way ≡ neg_ℤ (pos d)))

-- nothing turns back between two points
signed_way : (s : ℕ) (p r t : ℤ) → distance p r + distance r t ≡ distance p t →
    AreSigned (distance p r * s) (distance p t * s) ((r *ℤ pos s) -ℤ (p *ℤ pos s)) ((t *ℤ pos s) -ℤ (p *ℤ pos s))
unfolding AreSigned
signed_way s p r t straight = by_lt_z p t
    (λ more. let first : r ≡ p +ℤ pos (distance p r) = omega (arith, ints, straight) in
    let all : t ≡ p +ℤ pos (distance p t) = omega (arith, ints) in
    let a = ap (λ z. z *ℤ pos s) first in
    let b = ap (λ z. z *ℤ pos s) all in
    inl (omega (arith, ints, a, scale-sum s p (pos (distance p r))), omega (arith, ints, b, scale-sum s p (pos (distance p t)))))
    (λ less. let first : r ≡ p +ℤ neg_ℤ (pos (distance p r)) = omega (arith, ints, straight) in
    let all : t ≡ p +ℤ neg_ℤ (pos (distance p t)) = omega (arith, ints) in
    let a = ap (λ z. z *ℤ pos s) first in
    let b = ap (λ z. z *ℤ pos s) all in
    inr (
      omega (arith, ints, a, scale-sum s p (neg_ℤ (pos (distance p r))), neg_scaled (distance p r) s),
      omega (arith, ints, b, scale-sum s p (neg_ℤ (pos (distance p t))), neg_scaled (distance p t) s),
    ))

abbrev pub AreNear : ℕ → ℕ → ℕ → Type 0
AreNear c x y = (x ≤ c + y) × (y ≤ c + x)

up_parts : (x y c : ℕ) → 2 * distance (pos x) (pos y) ≤ c → AreNear c (2 * y) (2 * x)
up_parts x y c h = (omega (arith, ints, h), omega (arith, ints, h))

down_parts : (x y c : ℕ) → 2 * distance (neg_ℤ (pos x)) (neg_ℤ (pos y)) ≤ c → AreNear c (2 * y) (2 * x)
down_parts x y c h = (omega (arith, ints, h), omega (arith, ints, h))

unscaled : (n k s q d : ℕ) → 0 < s → AreNear (3 * (n * s)) (2 * (n * (q * s))) (2 * (k * (d * s))) → AreNear (3 * n) (2 * (n * q)) (2 * (k * d))
unscaled n k s q d some h = (
  le_of_mul-le-mul_left {k = s} (omega (arith, h.0)) some,
  le_of_mul-le-mul_left {k = s} (omega (arith, h.1)) some,
)

grid_near : (n k s q d : ℕ) (gone way : ℤ) → 0 < s → AreSigned (q * s) (d * s) gone way → 2 * distance (pos k *ℤ way) (pos n *ℤ gone) ≤ 3 * (n * s) →
    AreNear (3 * n) (2 * (n * q)) (2 * (k * d))
unfolding AreSigned
grid_near n k s q d gone way some (inl e) h =
    let there = subst (λ w. 2 * distance (pos k *ℤ w) (pos n *ℤ gone) ≤ 3 * (n * s)) e.1 h in
    let both = subst (λ g. 2 * distance (pos k *ℤ pos (d * s)) (pos n *ℤ g) ≤ 3 * (n * s)) e.0 there in
    unscaled n k s q d some (up_parts (k * (d * s)) (n * (q * s)) (3 * (n * s)) both)
grid_near n k s q d gone way some (inr e) h =
    let there = subst (λ w. 2 * distance (pos k *ℤ w) (pos n *ℤ gone) ≤ 3 * (n * s)) e.1 h in
    let both = subst (λ g. 2 * distance (pos k *ℤ neg_ℤ (pos (d * s))) (pos n *ℤ g) ≤ 3 * (n * s)) e.0 there in
    let one = subst (λ z. 2 * distance z (pos n *ℤ neg_ℤ (pos (q * s))) ≤ 3 * (n * s)) (neg_part k (d * s)) both in
    let two = subst (λ z. 2 * distance (neg_ℤ (pos (k * (d * s)))) z ≤ 3 * (n * s)) (neg_part n (q * s)) one in
    unscaled n k s q d some (down_parts (k * (d * s)) (n * (q * s)) (3 * (n * s)) two)

near_here : (m k s : ℕ) (b e p r t : ℤ) → 0 < s → 2 * unsigned_abs (b -ℤ (p *ℤ pos s)) ≤ s → 2 * unsigned_abs (e -ℤ (t *ℤ pos s)) ≤ s →
    distance p r + distance r t ≡ distance p t → distance (pos k *ℤ (e -ℤ b)) (pos (m + k) *ℤ ((r *ℤ pos s) -ℤ b)) ≤ (m + k) * s →
    AreNear (3 * (m + k)) (2 * ((m + k) * distance p r)) (2 * (k * distance p t))
near_here m k s b e p r t some near_b near_e straight close =
    let gone = (r *ℤ pos s) -ℤ (p *ℤ pos s) in
    let way = (t *ℤ pos s) -ℤ (p *ℤ pos s) in
    let part = near_core m k s ((p *ℤ pos s) -ℤ b) ((t *ℤ pos s) -ℤ e) gone way ((r *ℤ pos s) -ℤ b) (e -ℤ b) (omega (arith, ints)) (omega (arith, ints)) close
    (omega (arith, ints)) (omega (arith, ints)) in
    grid_near (m + k) k s (distance p r) (distance p t) gone way some (signed_way s p r t straight) part

near_place : (n k s : ℕ) (b e p r t : ℤ) → k ≤ n → 0 < s → 2 * unsigned_abs (b -ℤ (p *ℤ pos s)) ≤ s → 2 * unsigned_abs (e -ℤ (t *ℤ pos s)) ≤ s →
    distance p r + distance r t ≡ distance p t → distance (pos k *ℤ (e -ℤ b)) (pos n *ℤ ((r *ℤ pos s) -ℤ b)) ≤ n * s →
    AreNear (3 * n) (2 * (n * distance p r)) (2 * (k * distance p t))
near_place n k s b e p r t less some near_b near_e straight close =
    let whole : n - k + k ≡ n = omega (arith, less) in
    let there = subst (λ i. distance (pos k *ℤ (e -ℤ b)) (pos i *ℤ ((r *ℤ pos s) -ℤ b)) ≤ i * s) (sym whole) close in
    subst (λ i. AreNear (3 * i) (2 * (i * distance p r)) (2 * (k * distance p t))) whole (near_here (n - k) k s b e p r t some near_b near_e straight there)

-- after k of n moves
pub near_line : (step : ℤ) (n : ℕ) (b e : ℤ) (place : ℕ → ℤ) → IsStep step → FollowsLine step n b e place → place 0 ≡ nearest b step →
    place n ≡ nearest e step → (k : ℕ) → k ≤ n → AreNear (3 * n) (2 * (n * distance (place 0) (place k))) (2 * (k * distance (place 0) (place n)))
near_line (pos s) n b e place unit f starts ends k less =
    let some : 0 < s = omega (arith, ints, unit.least) in
    let near_b = subst (λ p. 2 * unsigned_abs (b -ℤ (p *ℤ pos s)) ≤ s) (sym starts) (nearest_near b s some) in
    let near_e = subst (λ p. 2 * unsigned_abs (e -ℤ (p *ℤ pos s)) ≤ s) (sym ends) (nearest_near e s some) in
    near_place n k s b e (place 0) (place k) (place n) less some near_b near_e (f.straight 0 k n (omega arith) less (omega arith)) (f.close k less)
near_line (negsuc s) n b e place unit f starts ends k less = absurd (omega (arith, ints, unit.least))

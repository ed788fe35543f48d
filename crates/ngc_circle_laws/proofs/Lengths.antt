-- The number of moves of a walk: after four quadrants it ends no further on than it began.
use Rattle.std.proofs.Common.{◌≡◌, ℕ, ◌+◌, ◌-◌, ◌*◌, ◌<◌, ◌≤◌, inl, inr, subst, arith}
use Rattle.std.proofs.lemmas.Bool.{cases_lt}
use Rattle.std.proofs.Math.Nat.{mul-le-mul_left, le_of_mul-le-mul_left}
use Rattle.ngc_circle_walk.specs.declared.spoke.Spoke.{Spoke}
use Rattle.ngc_circle_walk.specs.Bounds.{IsBelow, IsAbove}
use Rattle.ngc_circle_walk.specs.Directions.{IsNoLater}
use Rattle.ngc_circle_walk.proofs.WheelStart.{IsSmallSize, more_limit, twice_high}
use Rattle.ngc_circle_walk.proofs.NearEnd.{limit_of}
use Rattle.ngc_circle_walk.proofs.Rays.{square_le, from_squares}
use Rattle.ngc_circle_walk.proofs.Rolling.{all_below, within_reach, far_on}
use Rattle.ngc_arc_geometry.specs.Shape.{ArcShape}
use Rattle.ngc_circle_laws.specs.ArcWalk.{IsWalk, IsBeforeEnd}
use Rattle.ngc_circle_laws.specs.Placed.{IsATurn}
use Rattle.ngc_circle_laws.proofs.ArcBoxes.{not_beyond, not_behind, IsNearBand}
use Rattle.ngc_circle_laws.proofs.Circuit.{IsCircuit, limit_grows, wide_limit}
use Rattle.ngc_circle_laws.proofs.Followed.{at_most_four, large_near}
use Rattle.ngc_circle_laws.proofs.SmallCircuit.{IsSmallCircuit, no_less, small_below, small_above}
use Rattle.ngc_circle_laws.proofs.Walks.{few_on}

-- ---- the last point of a walk through four quadrants

-- directions of one quadrant: s before e, e not past b, b not past f
not_past : (sx sy ex ey bx by fx fy : ℕ) → 0 < ex → 0 < bx → sy * ex < sx * ey → bx * ey ≤ by * ex → by * fx ≤ bx * fy → fx * sy ≤ fy * sx
not_past sx sy ex ey bx by fx fy some_e some_b before turn past =
    let a = mul-le-mul_left bx (let h : sy * ex ≤ sx * ey = omega (arith, before) in h) in
    let b = mul-le-mul_left sx turn in
    let c : ex * (sy * bx) ≤ ex * (sx * by) = omega (arith, a, b) in
    let d = mul-le-mul_left fx (le_of_mul-le-mul_left c some_e) in
    let e = mul-le-mul_left sx past in
    let f : bx * (fx * sy) ≤ bx * (fy * sx) = omega (arith, d, e) in
    le_of_mul-le-mul_left f some_b

before_there : (here last : ℕ) (s e : Spoke) → last ≤ here → IsBeforeEnd here last s e → s.y * e.x < s.x * e.y
before_there here last s e le (inl less) = absurd (omega (arith, le, less))
before_there here last s e le (inr h) = h.1

abbrev once_round : ℕ → ℕ → ℕ → ℕ → Type 0
once_round x y z w = x * w ≤ y * z

abbrev same_quadrant : ℕ → ℕ → ℕ → ℕ → Type 0
same_quadrant x y z w = y * z ≤ x * w

last_not_past : (a : ArcShape) (g limit n : ℕ) (at : ℕ → Spoke) (quadrant : ℕ → ℕ) (b e : Spoke) (begun left : ℕ) →
    IsWalk a g limit n at quadrant b e begun left → begun ≡ 0 → left ≡ 4 → 4 ≤ quadrant n →
    (at 0).x * (at n).y ≤ (at 0).y * (at n).x
last_not_past a g limit n at quadrant b e begun left w none all le =
    let four : begun + left ≡ 4 = omega (arith, none, all) in
    let turn : once_round b.x b.y e.x e.y = subst (λ m. IsATurn m b.x b.y e.x e.y) four w.turn in
    let past : same_quadrant b.x b.y (at 0).x (at 0).y = subst (λ m. IsNoLater m b.x b.y (at 0).x (at 0).y) none w.past_start in
    not_past (at n).x (at n).y e.x e.y b.x b.y (at 0).x (at 0).y w.end_out w.start_out
    (before_there (quadrant n) left (at n) e (omega (arith, all, le)) w.before_end) turn past

-- ---- so its moves cover at most four quadrants, plus the width of the circle

not_farther : (x y z w low m : ℕ) → x * w ≤ y * z → x * x + y * y ≤ (low + m) * (low + m) → low * low ≤ z * z + w * w → 0 < low → x ≤ z + m
not_farther x y z w low m past near far some =
    elim (cases_lt low z) [
      | inl out ↦ (let h = from_squares x (low + m) (omega (arith, near)) in omega (arith, h, out))
      | inr ins ↦ not_beyond x y z w low m past near far ins some
    ]

record IsBetween (low m : ℕ) (s : Spoke) : Type 0 where
  above : low * low ≤ s.x * s.x + s.y * s.y
  below : s.x * s.x + s.y * s.y ≤ (low + m) * (low + m)

walk_length : (a : ArcShape) (g u limit low m n : ℕ) (at : ℕ → Spoke) (quadrant : ℕ → ℕ) (b e : Spoke) (begun left : ℕ) →
    IsWalk a g limit n at quadrant b e begun left →
    limit ≤ u * u → 2 * (g * g) ≤ u * u → IsBelow g (u * u) (at 0) → 0 < low → IsBetween low m (at 0) → IsBetween low m (at n) → n * g ≤ 8 * (u + g) + 2 * m
walk_length a g u limit low m n at quadrant b e begun left w bound room below some first last =
    let far = far_on g u limit n at quadrant n w.rolling bound room below (omega arith) in
    let small = within_reach g u (at n) (all_below g limit (u * u) n at quadrant n w.rolling bound room below (omega arith)) in
    let start = within_reach g u (at 0) below in
    let few = few_on a g limit n at quadrant b e begun left n w (omega arith) in
    let four = at_most_four (begun + left) b.x b.y e.x e.y w.turn in
    let fit = mul-le-mul_left (2 * (u + g)) (let h : quadrant n ≤ 4 = omega (arith, few, four) in h) in
    elim (cases_lt (quadrant n) 4) [
      | inl less ↦ (
          let p = mul-le-mul_left (2 * (u + g)) (let h : quadrant n ≤ 3 = omega (arith, less) in h) in
          omega (arith, far, small.0, small.1, p))
      | inr more ↦ (
          let past = last_not_past a g limit n at quadrant b e begun left w (omega (arith, more, few, four)) (omega (arith, more, few, four)) more in
          let x = not_farther (at 0).x (at 0).y (at n).x (at n).y low m past first.below last.above some in
          let y = not_behind (at 0).x (at 0).y (at n).x (at n).y low m past first.above last.below in
          omega (arith, far, small.0, small.1, start.0, fit, x, y))
    ]

between_of : (a : ArcShape) (g r low : ℕ) (s : Spoke) → low + 2 * g ≡ r → IsNearBand a g r s → IsBetween low (4 * g) s
between_of a g r low s e band =
    let inner = square_le low (r - 2 * g) (omega (arith, e)) in
    let outer = square_le (r + 2 * g) (low + 4 * g) (omega (arith, e)) in
    record { above = omega (arith, inner, band.above); below = omega (arith, outer, band.below) }

-- ---- the lengths

pub large_length : (a : ArcShape) (g q h k l v n : ℕ) (at : ℕ → Spoke) (quadrant : ℕ → ℕ) (b e : Spoke) (begun left : ℕ) →
    IsCircuit a g q h k l v n at quadrant b e begun left → n * g ≤ 8 * (q + 1) + 24 * g
large_length a g q h k l v n at quadrant b e begun left c =
    let z = c.rim in
    let more = limit_grows g q h k l v z in
    let low = q + 1 - 2 * g in
    let e_low : low + 2 * g ≡ q + 1 = omega (arith, z.far) in
    let between : (i : ℕ) → i ≤ n →
    IsBetween low (4 * g) (at i) = λ i le. between_of a g (q + 1) low (at i) e_low (large_near a g q h k l v n at quadrant b e begun left i c le) in
    let all = walk_length a g (q + 1 + l) (limit_of q h) low (4 * g) n at quadrant b e begun left c.walk more
    (omega (arith, more, wide_limit g q h k l v z)) c.below
    (omega (arith, e_low, z.far, z.step)) (between 0 (omega arith)) (between n (omega arith)) in
    omega (arith, all, z.l_high)

small_between : (g o h l m v low : ℕ) (s : Spoke) → IsSmallSize g o h l m v → low + 2 * g ≡ o → IsBelow g ((o + l) * (o + l)) s → IsAbove g v s →
    IsBetween low (4 * g) s
small_between g o h l m v low s z e below above =
    let inner = square_le (low + g) v (omega (arith, e, z.inner, z.m_high)) in
    let outer = square_le (10 * (o + l)) (10 * o + 11 * g) (omega (arith, z.l_high)) in
    let more = square_le (o + 2 * g) (low + 4 * g) (omega (arith, e)) in
    record { above = omega (arith, inner, above.all); below = omega (arith, outer, more, below.all) }

pub small_length : (a : ArcShape) (g o h l m v r n : ℕ) (at : ℕ → Spoke) (quadrant : ℕ → ℕ) (b e : Spoke) (begun left : ℕ) →
    IsSmallCircuit a g o h l m v r n at quadrant b e begun left → n * g ≤ 8 * r + 33 * g
small_length a g o h l m v r n at quadrant b e begun left c =
    let z = c.size in
    let near = no_less g o r z.step c.circle in
    let low = o - 2 * g in
    let e_low : low + 2 * g ≡ o = omega (arith, z.least) in
    let between : (i : ℕ) → i ≤ n → IsBetween low (4 * g) (at i) = λ i le. small_between g o h l m v low (at i) z e_low
    (small_below a g o h l m v r n at quadrant b e begun left i c le) (small_above a g o h l m v r n at quadrant b e begun left i c le) in
    let all = walk_length a g (o + l) ((o + h) * (o + h)) low (4 * g) n at quadrant b e begun left c.walk (more_limit g o h l m v z)
    (twice_high g o h l m v z) c.below
    (omega (arith, e_low, z.least, z.step)) (between 0 (omega arith)) (between n (omega arith)) in
    omega (arith, all, z.l_high, near.1)

-- ---- few enough that all counts of them fit

pub few_moves : (n g r : ℕ) → 500 ≤ g → r ≤ 2000020000 → n * g ≤ 8 * r + 50 * g → n < 100000000
few_moves n g r step bound length =
    elim (cases_lt n 100000000) [
      | inl less ↦ less
      | inr more ↦ (let p = mul-le-mul_left g more in absurd (omega (arith, p, length, bound, step)))
    ]

pub large_few : (a : ArcShape) (g q h k l v n : ℕ) (at : ℕ → Spoke) (quadrant : ℕ → ℕ) (b e : Spoke) (begun left : ℕ) →
    IsCircuit a g q h k l v n at quadrant b e begun left → q + 1 ≤ 2000020000 → n < 100000000
large_few a g q h k l v n at quadrant b e begun left c bound =
    let all = large_length a g q h k l v n at quadrant b e begun left c in
    few_moves n g (q + 1) c.rim.step bound (omega (arith, all))

pub small_few : (a : ArcShape) (g o h l m v r n : ℕ) (at : ℕ → Spoke) (quadrant : ℕ → ℕ) (b e : Spoke) (begun left : ℕ) →
    IsSmallCircuit a g o h l m v r n at quadrant b e begun left → o ≤ 2000020000 → n < 100000000
small_few a g o h l m v r n at quadrant b e begun left c bound =
    let all = small_length a g o h l m v r n at quadrant b e begun left c in
    few_moves n g r c.size.step (let near = no_less g o r c.size.step c.circle in omega (arith, near.0, bound)) (omega (arith, all))

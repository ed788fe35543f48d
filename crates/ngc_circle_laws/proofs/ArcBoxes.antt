-- A point between the rays of an arc, near its circles, is in a box round the arc's ends and quadrant points.
use Rattle.std.proofs.Common.{◌≡◌, ℕ, zero, suc, ◌+◌, ◌-◌, ◌*◌, ◌<◌, ◌≤◌, ℤ, pos, ◌+ℤ◌, ◌-ℤ◌, ◌≤ℤ◌, neg_ℤ, List, [], ◌∷◌, fold, map, min, inl, inr, refl, sym}
use Rattle.std.proofs.Common.{◌∙◌, ap, subst, arith}
use Rattle.std.specs.Int.{int_min, int_max}
use Rattle.std.proofs.lemmas.Bool.{cases_lt}
use Rattle.std.proofs.lemmas.Int.{ints, clamps}
use Rattle.std.proofs.Math.Nat.{mul-le-mul_left, le_of_mul-le-mul_left}
use borrow.Author.Differences.{neg_is}
use Rattle.ngc_fixed_length.specs.declared.modes.Turn.{Turn}
use Rattle.ngc_fixed_length.specs.declared.modes.Turn.TheVariants.{Clockwise, Counterclockwise}
use Rattle.ngc_fixed_length.specs.Places.{shifted}
use Rattle.ngc_fixed_length.specs.declared.points.Point2.{Point2}
use Rattle.ngc_circle_walk.specs.declared.spoke.Quadrant.{Quadrant}
use Rattle.ngc_circle_walk.specs.declared.spoke.Quadrant.TheVariants.{First, Second, Third, Fourth}
use Rattle.ngc_circle_walk.specs.declared.spoke.Spoke.{Spoke}
use Rattle.ngc_circle_walk.specs.Around.{around}
use Rattle.ngc_circle_walk.specs.Directions.{IsNoLater}
use Rattle.ngc_circle_walk.specs.Quadrants.{following}
use Rattle.ngc_circle_walk.proofs.Rays.{beyond, from_squares, square_le}
use Rattle.ngc_arc_geometry.specs.ArcBand.{spread}
use Rattle.ngc_arc_geometry.specs.Shape.{ArcShape, start_of, end_of}
use Rattle.ngc_arc_geometry.specs.Radii.{inner_radius, outer_radius}
use Rattle.ngc_arc_geometry.specs.Sector.{extremes}
use Rattle.ngc_arc_geometry.specs.Swept.{least, greatest, other_points}
use Rattle.ngc_circle_laws.specs.Placed.{mirrored, placed, turned_by, axis_spoke, axis_points, first_axis}
use Rattle.ngc_circle_laws.specs.Hull.{first_of, second_of, IsNearHull}
use Rattle.ngc_circle_laws.specs.Round.{IsRound}
use Rattle.ngc_circle_laws.proofs.Axes.{extremes_are}
use Rattle.ngc_circle_laws.proofs.CrossProducts.{four_on, same_axis}
use Rattle.ngc_circle_laws.proofs.PassedQuadrants.{at_most_one}

-- ---- past a ray b of its quadrant, a point is not far beyond b along the first half axis, nor far
-- short of it along the second

abbrev by_zero : ℕ → ℕ → ℕ → ℕ → Type 0
by_zero x y z w = y * z ≤ x * w

from_below : (x r : ℕ) → x * x < (r + 1) * (r + 1) → x ≤ r
from_below x r h =
    elim (cases_lt r x) [
      | inr fine ↦ fine
      | inl more ↦ (let a = square_le (r + 1) x (omega (arith, more)) in absurd (omega (arith, a, h)))
    ]

pub not_beyond : (x y bx by low m : ℕ) → x * by ≤ y * bx → x * x + y * y ≤ (low + m) * (low + m) → low * low ≤ bx * bx + by * by → bx ≤ low →
    0 < low → x ≤ bx + m
not_beyond x y bx by low m past near round inside some =
    let a = beyond x y bx by past in
    let b = mul-le-mul_left (x * x) round in
    let c = mul-le-mul_left (bx * bx) near in
    let d : (x * low) * (x * low) ≤ ((low + m) * bx) * ((low + m) * bx) = omega (arith, a, b, c) in
    let e = from_squares (x * low) ((low + m) * bx) d in
    let f = mul-le-mul_left m inside in
    let h : low * x ≤ low * (bx + m) = omega (arith, e, f) in
    le_of_mul-le-mul_left h some

pub not_behind : (x y bx by low m : ℕ) → x * by ≤ y * bx → low * low ≤ x * x + y * y → bx * bx + by * by ≤ (low + m) * (low + m) → by ≤ y + m
not_behind x y bx by zero m past far round = let h = from_squares by m (omega (arith, round)) in omega (arith, h)
not_behind x y bx by (suc low) m past far round =
    let r = suc low in
    let a = beyond by bx y x (omega (arith, past)) in
    let b = mul-le-mul_left (by * by) far in
    let c = mul-le-mul_left (y * y) round in
    let d : (by * r) * (by * r) ≤ ((r + m) * y) * ((r + m) * y) = omega (arith, a, b, c) in
    let e = from_squares (by * r) ((r + m) * y) d in
    elim (cases_lt (y + m) by) [
      | inr fine ↦ fine
      | inl more ↦ elim (cases_lt r y) [
        | inl out ↦ (
            let n = from_squares by (r + m) (omega (arith, round)) in
            absurd (omega (arith, n, out, more)))
        | inr ins ↦ (
            let f = mul-le-mul_left m ins in
            let h : r * by ≤ r * (y + m) = omega (arith, e, f) in
            le_of_mul-le-mul_left h (omega arith))
      ]
    ]

-- ---- the box round the ends and the quadrant points contains each of them

pub record IsInHull (a : ArcShape) (p : Point2) : Type 0 where
  pub low : (f : Point2 → ℤ) → least f (start_of a) (other_points a) ≤ℤ f p
  pub high : (f : Point2 → ℤ) → f p ≤ℤ greatest f (start_of a) (other_points a)

min_below : (x : ℤ) (xs : List ℤ) → fold int_min x xs ≤ℤ x
min_below x [] = omega (arith, ints)
min_below x (y ∷ ys) = let rest = min_below (int_min x y) ys in omega (arith, ints, clamps, rest)

max_above : (x : ℤ) (xs : List ℤ) → x ≤ℤ fold int_max x xs
max_above x [] = omega (arith, ints)
max_above x (y ∷ ys) = let rest = max_above (int_max x y) ys in omega (arith, ints, clamps, rest)

pub start_held : (a : ArcShape) → IsInHull a (start_of a)
start_held a = record {
  low = λ f. min_below (f (start_of a)) (map f (other_points a));
  high = λ f. max_above (f (start_of a)) (map f (other_points a));
}

pub end_held : (a : ArcShape) → IsInHull a (end_of a)
end_held a = record {
  low = λ f. (let rest = min_below (int_min (f (start_of a)) (f (end_of a))) (map f (extremes a)) in omega (arith, ints, clamps, rest));
  high = λ f. (let rest = max_above (int_max (f (start_of a)) (f (end_of a))) (map f (extremes a)) in omega (arith, ints, clamps, rest));
}

axis_low : (a : ArcShape) (b : Spoke) (r n c d : ℕ) (f : Point2 → ℤ) (x : ℤ) → d < c →
    fold int_min x (map f (axis_points a b r n c)) ≤ℤ f (placed a (axis_spoke b r (n + d)))
axis_low a b r n zero d f x less = absurd (omega (arith, less))
axis_low a b r n (suc c) zero f x less =
    let e : n ≡ n + 0 = omega arith in
    let y = f (placed a (axis_spoke b r n)) in
    let rest = min_below (int_min x y) (map f (axis_points a b r (suc n) c)) in
    subst (λ t. fold int_min x (map f (axis_points a b r n (suc c))) ≤ℤ f (placed a (axis_spoke b r t))) e (omega (arith, ints, clamps, rest))
axis_low a b r n (suc c) (suc d) f x less =
    let e : suc n + d ≡ n + suc d = omega arith in
    subst (λ t. fold int_min x (map f (axis_points a b r n (suc c))) ≤ℤ f (placed a (axis_spoke b r t))) e
    (axis_low a b r (suc n) c d f (int_min x (f (placed a (axis_spoke b r n)))) (omega (arith, less)))

axis_high : (a : ArcShape) (b : Spoke) (r n c d : ℕ) (f : Point2 → ℤ) (x : ℤ) → d < c →
    f (placed a (axis_spoke b r (n + d))) ≤ℤ fold int_max x (map f (axis_points a b r n c))
axis_high a b r n zero d f x less = absurd (omega (arith, less))
axis_high a b r n (suc c) zero f x less =
    let e : n ≡ n + 0 = omega arith in
    let y = f (placed a (axis_spoke b r n)) in
    let rest = max_above (int_max x y) (map f (axis_points a b r (suc n) c)) in
    subst (λ t. f (placed a (axis_spoke b r t)) ≤ℤ fold int_max x (map f (axis_points a b r n (suc c)))) e (omega (arith, ints, clamps, rest))
axis_high a b r n (suc c) (suc d) f x less =
    let e : suc n + d ≡ n + suc d = omega arith in
    subst (λ t. f (placed a (axis_spoke b r t)) ≤ℤ fold int_max x (map f (axis_points a b r n (suc c)))) e
    (axis_high a b r (suc n) c d f (int_max x (f (placed a (axis_spoke b r n)))) (omega (arith, less)))

whole_turn : (b : Spoke) (r : ℕ) → axis_spoke b r 4 ≡ axis_spoke b r 0
whole_turn b r = ap (λ (q : Quadrant). record { quadrant = q; x = r; y = 0 }) (four_on b.quadrant)

-- a half axis between start and end
pub axis_held : (a : ArcShape) (b e : Spoke) (whole i : ℕ) → IsRound a b e whole → first_axis b.y ≤ i → i ≤ whole → whole ≤ 4 →
    IsInHull a (placed a (axis_spoke b (outer_radius a) i))
axis_held a b e whole i way from to few =
    let r = outer_radius a in
    let n = first_axis b.y in
    let c = min 4 (whole + 1 - n) in
    let same = extremes_are a b e whole way in
    elim (cases_lt (i - n) 4) [
      | inl less ↦ (
          let d = i - n in
          let sum : n + d ≡ i = omega (arith, from) in
          record {
            low = λ f. (
                let x = int_min (f (start_of a)) (f (end_of a)) in
                let h = axis_low a b r n c d f x (omega (arith, less, to, from)) in
                subst (λ t. fold int_min x (map f (extremes a)) ≤ℤ f (placed a (axis_spoke b r t))) sum
                (subst (λ ps. fold int_min x (map f ps) ≤ℤ f (placed a (axis_spoke b r (n + d)))) (sym same) h));
            high = λ f. (
                let x = int_max (f (start_of a)) (f (end_of a)) in
                let h = axis_high a b r n c d f x (omega (arith, less, to, from)) in
                subst (λ t. f (placed a (axis_spoke b r t)) ≤ℤ fold int_max x (map f (extremes a))) sum
                (subst (λ ps. f (placed a (axis_spoke b r (n + d))) ≤ℤ fold int_max x (map f ps)) (sym same) h));
          })
      | inr more ↦ (
          let z : n ≡ 0 = omega (arith, more, to, few) in
          let last : 4 ≡ i = omega (arith, more, to, few) in
          let sum : n + 0 ≡ 0 = omega (arith, z) in
          let back : placed a (axis_spoke b r 0) ≡ placed a (axis_spoke b r i) =
          ap (λ (s : Spoke). placed a s) (sym (whole_turn b r) ∙ ap (λ t. axis_spoke b r t) last) in
          record {
            low = λ f. (
                let x = int_min (f (start_of a)) (f (end_of a)) in
                let h = axis_low a b r n c 0 f x (omega (arith, z, last, to)) in
                subst (λ p. fold int_min x (map f (extremes a)) ≤ℤ f p) back
                (subst (λ t. fold int_min x (map f (extremes a)) ≤ℤ f (placed a (axis_spoke b r t))) sum
                (subst (λ ps. fold int_min x (map f ps) ≤ℤ f (placed a (axis_spoke b r (n + 0)))) (sym same) h)));
            high = λ f. (
                let x = int_max (f (start_of a)) (f (end_of a)) in
                let h = axis_high a b r n c 0 f x (omega (arith, z, last, to)) in
                subst (λ p. f p ≤ℤ fold int_max x (map f (extremes a))) back
                (subst (λ t. f (placed a (axis_spoke b r t)) ≤ℤ fold int_max x (map f (extremes a))) sum
                (subst (λ ps. f (placed a (axis_spoke b r (n + 0))) ≤ℤ fold int_max x (map f ps)) (sym same) h)));
          })
    ]

-- ---- a point of a quadrant between two points of that quadrant that the box, grown by m, contains

-- the point is at most m beyond the first one along the first half axis, and at most m short of it
-- along the second; for the second one the other way round
pub record IsBetweenBoth (x y x0 y0 x1 y1 m : ℕ) : Type 0 where
  pub far : x ≤ x0 + m
  pub above : y0 ≤ y + m
  pub near : x1 ≤ x + m
  pub below : y ≤ y1 + m

low_u : (q : Quadrant) (x y x0 y0 x1 y1 m : ℕ) (l : ℤ) → IsBetweenBoth x y x0 y0 x1 y1 m → l ≤ℤ (around q x0 y0).u → l ≤ℤ (around q x1 y1).u →
    (l -ℤ pos m) ≤ℤ (around q x y).u
low_u First x y x0 y0 x1 y1 m l h a b = omega (arith, ints, h.near, b)
low_u Second x y x0 y0 x1 y1 m l h a b = let e = neg_is (pos y) in let f = neg_is (pos y1) in omega (arith, ints, h.below, b, e, f)
low_u Third x y x0 y0 x1 y1 m l h a b = let e = neg_is (pos x) in let f = neg_is (pos x0) in omega (arith, ints, h.far, a, e, f)
low_u Fourth x y x0 y0 x1 y1 m l h a b = omega (arith, ints, h.above, a)

high_u : (q : Quadrant) (x y x0 y0 x1 y1 m : ℕ) (l : ℤ) → IsBetweenBoth x y x0 y0 x1 y1 m → (around q x0 y0).u ≤ℤ l → (around q x1 y1).u ≤ℤ l →
    (around q x y).u ≤ℤ (l +ℤ pos m)
high_u First x y x0 y0 x1 y1 m l h a b = omega (arith, ints, h.far, a)
high_u Second x y x0 y0 x1 y1 m l h a b = let e = neg_is (pos y) in let f = neg_is (pos y0) in omega (arith, ints, h.above, a, e, f)
high_u Third x y x0 y0 x1 y1 m l h a b = let e = neg_is (pos x) in let f = neg_is (pos x1) in omega (arith, ints, h.near, b, e, f)
high_u Fourth x y x0 y0 x1 y1 m l h a b = omega (arith, ints, h.below, b)

low_v : (q : Quadrant) (x y x0 y0 x1 y1 m : ℕ) (l : ℤ) → IsBetweenBoth x y x0 y0 x1 y1 m → l ≤ℤ (around q x0 y0).v → l ≤ℤ (around q x1 y1).v →
    (l -ℤ pos m) ≤ℤ (around q x y).v
low_v First x y x0 y0 x1 y1 m l h a b = omega (arith, ints, h.above, a)
low_v Second x y x0 y0 x1 y1 m l h a b = omega (arith, ints, h.near, b)
low_v Third x y x0 y0 x1 y1 m l h a b = let e = neg_is (pos y) in let f = neg_is (pos y1) in omega (arith, ints, h.below, b, e, f)
low_v Fourth x y x0 y0 x1 y1 m l h a b = let e = neg_is (pos x) in let f = neg_is (pos x0) in omega (arith, ints, h.far, a, e, f)

high_v : (q : Quadrant) (x y x0 y0 x1 y1 m : ℕ) (l : ℤ) → IsBetweenBoth x y x0 y0 x1 y1 m → (around q x0 y0).v ≤ℤ l → (around q x1 y1).v ≤ℤ l →
    (around q x y).v ≤ℤ (l +ℤ pos m)
high_v First x y x0 y0 x1 y1 m l h a b = omega (arith, ints, h.below, b)
high_v Second x y x0 y0 x1 y1 m l h a b = omega (arith, ints, h.far, a)
high_v Third x y x0 y0 x1 y1 m l h a b = let e = neg_is (pos y) in let f = neg_is (pos y0) in omega (arith, ints, h.above, a, e, f)
high_v Fourth x y x0 y0 x1 y1 m l h a b = let e = neg_is (pos x) in let f = neg_is (pos x1) in omega (arith, ints, h.near, b, e, f)

from_low : (c l z w : ℤ) (m : ℕ) → ((l -ℤ c) -ℤ pos m) ≤ℤ z → w ≡ c +ℤ z → (l -ℤ pos m) ≤ℤ w
from_low c l z w m h e = omega (arith, ints, h, e)

from_high : (c l z w : ℤ) (m : ℕ) → z ≤ℤ ((l -ℤ c) +ℤ pos m) → w ≡ c +ℤ z → w ≤ℤ (l +ℤ pos m)
from_high c l z w m h e = omega (arith, ints, h, e)

to_low : (c l z : ℤ) → l ≤ℤ (c +ℤ z) → (l -ℤ c) ≤ℤ z
to_low c l z h = omega (arith, ints, h)

to_high : (c l z : ℤ) → (c +ℤ z) ≤ℤ l → z ≤ℤ (l -ℤ c)
to_high c l z h = omega (arith, ints, h)

neg_low : (c l z : ℤ) → l ≤ℤ (c +ℤ neg_ℤ z) → z ≤ℤ (c -ℤ l)
neg_low c l z h = let e = neg_is z in omega (arith, ints, h, e)

neg_high : (c l z : ℤ) → (c +ℤ neg_ℤ z) ≤ℤ l → (c -ℤ l) ≤ℤ z
neg_high c l z h = let e = neg_is z in omega (arith, ints, h, e)

back_low : (c l z : ℤ) (m : ℕ) → z ≤ℤ ((c -ℤ l) +ℤ pos m) → (l -ℤ pos m) ≤ℤ (c +ℤ neg_ℤ z)
back_low c l z m h = let e = neg_is z in omega (arith, ints, h, e)

back_high : (c l z : ℤ) (m : ℕ) → ((c -ℤ l) -ℤ pos m) ≤ℤ z → (c +ℤ neg_ℤ z) ≤ℤ (l +ℤ pos m)
back_high c l z m h = let e = neg_is z in omega (arith, ints, h, e)

near_hull : (t : Turn) (c : Point2) (q : Quadrant) (x y x0 y0 x1 y1 m : ℕ) (lu hu lv hv : ℤ) → IsBetweenBoth x y x0 y0 x1 y1 m →
    (let p = shifted c (mirrored t (around q x0 y0)) in (lu ≤ℤ p.u) × (p.u ≤ℤ hu) × (lv ≤ℤ p.v) × (p.v ≤ℤ hv)) →
    (let p = shifted c (mirrored t (around q x1 y1)) in (lu ≤ℤ p.u) × (p.u ≤ℤ hu) × (lv ≤ℤ p.v) × (p.v ≤ℤ hv)) →
    (let p = shifted c (mirrored t (around q x y)) in ((lu -ℤ pos m) ≤ℤ p.u) × (p.u ≤ℤ (hu +ℤ pos m)) × ((lv -ℤ pos m) ≤ℤ p.v) × (p.v ≤ℤ (hv +ℤ pos m)))
near_hull Counterclockwise c q x y x0 y0 x1 y1 m lu hu lv hv h p0 p1 =
    let d = around q x y in let d0 = around q x0 y0 in let d1 = around q x1 y1 in (
      from_low c.u lu d.u (c.u +ℤ d.u) m (low_u q x y x0 y0 x1 y1 m (lu -ℤ c.u) h (to_low c.u lu d0.u p0.0) (to_low c.u lu d1.u p1.0)) refl,
      from_high c.u hu d.u (c.u +ℤ d.u) m (high_u q x y x0 y0 x1 y1 m (hu -ℤ c.u) h (to_high c.u hu d0.u p0.1) (to_high c.u hu d1.u p1.1)) refl,
      from_low c.v lv d.v (c.v +ℤ d.v) m (low_v q x y x0 y0 x1 y1 m (lv -ℤ c.v) h (to_low c.v lv d0.v p0.2) (to_low c.v lv d1.v p1.2)) refl,
      from_high c.v hv d.v (c.v +ℤ d.v) m (high_v q x y x0 y0 x1 y1 m (hv -ℤ c.v) h (to_high c.v hv d0.v p0.3) (to_high c.v hv d1.v p1.3)) refl,
    )
near_hull Clockwise c q x y x0 y0 x1 y1 m lu hu lv hv h p0 p1 =
    let d = around q x y in let d0 = around q x0 y0 in let d1 = around q x1 y1 in (
      from_low c.u lu d.u (c.u +ℤ d.u) m (low_u q x y x0 y0 x1 y1 m (lu -ℤ c.u) h (to_low c.u lu d0.u p0.0) (to_low c.u lu d1.u p1.0)) refl,
      from_high c.u hu d.u (c.u +ℤ d.u) m (high_u q x y x0 y0 x1 y1 m (hu -ℤ c.u) h (to_high c.u hu d0.u p0.1) (to_high c.u hu d1.u p1.1)) refl,
      back_low c.v lv d.v m (high_v q x y x0 y0 x1 y1 m (c.v -ℤ lv) h (neg_low c.v lv d0.v p0.2) (neg_low c.v lv d1.v p1.2)),
      back_high c.v hv d.v m (low_v q x y x0 y0 x1 y1 m (c.v -ℤ hv) h (neg_high c.v hv d0.v p0.3) (neg_high c.v hv d1.v p1.3)),
    )

pub held_between : (a : ArcShape) (s : Spoke) (x0 y0 x1 y1 m : ℕ) → IsBetweenBoth s.x s.y x0 y0 x1 y1 m →
    IsInHull a (placed a (record { quadrant = s.quadrant; x = x0; y = y0 })) → IsInHull a (placed a (record { quadrant = s.quadrant; x = x1; y = y1 })) →
    IsNearHull a m (placed a s)
held_between a s x0 y0 x1 y1 m h p q =
    let near = near_hull a.turn a.centre s.quadrant s.x s.y x0 y0 x1 y1 m
    (least first_of (start_of a) (other_points a)) (greatest first_of (start_of a) (other_points a)) (least second_of (start_of a) (other_points a))
    (greatest second_of (start_of a) (other_points a)) h
    (p.low first_of, p.high first_of, p.low second_of, p.high second_of) (q.low first_of, q.high first_of, q.low second_of, q.high second_of) in
    record { low_u = near.0; high_u = near.1; low_v = near.2; high_v = near.3 }

-- ---- a point that is between the rays of start and end

-- its distance from the centre is between the arc's two radii, to within two steps
pub record IsNearBand (a : ArcShape) (g r : ℕ) (s : Spoke) : Type 0 where
  pub inside : inner_radius a ≤ r
  pub outside : r ≤ outer_radius a
  pub below : s.x * s.x + s.y * s.y ≤ (r + 2 * g) * (r + 2 * g)
  pub above : (r - 2 * g) * (r - 2 * g) ≤ s.x * s.x + s.y * s.y

-- the end of a ray, between the two radii; root is its own radius, rounded down
pub record IsEnd (a : ArcShape) (x y root : ℕ) : Type 0 where
  pub low : root * root ≤ x * x + y * y
  pub high : x * x + y * y < (root + 1) * (root + 1)
  pub inner : inner_radius a ≤ root
  pub outer : x * x + y * y ≤ outer_radius a * outer_radius a
  pub some : 0 < root

-- a point past the ray b is not far beyond b along the first half axis, and not far short of it
-- along the second
past_ray : (a : ArcShape) (g r : ℕ) (s : Spoke) (bx by root : ℕ) → IsNearBand a g r s → IsEnd a bx by root → by * s.x ≤ bx * s.y →
    (s.x ≤ bx + (2 * g + spread a)) × (by ≤ s.y + (2 * g + spread a))
past_ray a g r s bx by root band end past =
    let m = 2 * g + spread a in
    let within = from_below bx root (omega (arith, end.high)) in
    let far = square_le (r + 2 * g) (root + m) (omega (arith, band.inside, band.outside, end.inner)) in
    let near = square_le (outer_radius a) (r - 2 * g + m) (omega (arith, band.inside, band.outside)) in (
      not_beyond s.x s.y bx by root m (omega (arith, past)) (omega (arith, band.below, far)) end.low within end.some,
      not_behind s.x s.y bx by (r - 2 * g) m (omega (arith, past)) band.above (omega (arith, end.outer, near)),
    )

-- for a point `here` quadrants from the start and before the end: the half axis before it, or the
-- start
behind_it : (a : ArcShape) (g r : ℕ) (b e s : Spoke) (whole here root : ℕ) → IsRound a b e whole → whole ≤ 4 → IsNearBand a g r s → IsEnd a b.x b.y root →
    s.quadrant ≡ turned_by here b.quadrant → here ≤ whole → IsNoLater here b.x b.y s.x s.y →
    (x0 : ℕ) × (y0 : ℕ) × (s.x ≤ x0 + (2 * g + spread a)) × (y0 ≤ s.y + (2 * g + spread a)) ×
    IsInHull a (placed a (record { quadrant = s.quadrant; x = x0; y = y0 }))
behind_it a g r b e s whole here root way few band end at le past =
    elim (cases_lt here (first_axis b.y)) [
      | inl before ↦ (
          let none : here ≡ 0 = omega (arith, before, at_most_one b.y) in
          let same : s.quadrant ≡ b.quadrant = at ∙ ap (λ m. turned_by m b.quadrant) none in
          let past' : by_zero b.x b.y s.x s.y = subst (λ m. IsNoLater m b.x b.y s.x s.y) none past in
          let h = past_ray a g r s b.x b.y root band end past' in (
            b.x,
            b.y,
            h.0,
            h.1,
            subst (λ p. IsInHull a p) (way.start ∙ ap (λ (q : Quadrant). placed a (record { quadrant = q; x = b.x; y = b.y })) (sym same)) (start_held a),
          ))
      | inr reached ↦ (
          let r' = outer_radius a in
          let held = axis_held a b e whole here way reached le few in
          let x = from_squares s.x (r + 2 * g) (omega (arith, band.below)) in (
            r',
            0,
            omega (arith, x, band.outside),
            omega arith,
            subst (λ (q : Quadrant). IsInHull a (placed a (record { quadrant = q; x = r'; y = 0 }))) (sym at) held,
          ))
    ]

-- and the half axis after it, or the end
ahead_of_it : (a : ArcShape) (g r : ℕ) (b e s : Spoke) (whole here root : ℕ) → IsRound a b e whole → whole ≤ 4 → IsNearBand a g r s → IsEnd a e.x e.y root →
    s.quadrant ≡ turned_by here b.quadrant → here ≤ whole → IsNoLater (whole - here) s.x s.y e.x e.y →
    (x1 : ℕ) × (y1 : ℕ) × (x1 ≤ s.x + (2 * g + spread a)) × (s.y ≤ y1 + (2 * g + spread a)) ×
    IsInHull a (placed a (record { quadrant = s.quadrant; x = x1; y = y1 }))
ahead_of_it a g r b e s whole here root way few band end at le before =
    elim (cases_lt here whole) [
      | inr last ↦ (
          let none : whole - here ≡ 0 = omega (arith, last) in
          let same : here ≡ whole = omega (arith, last, le) in
          let there : e.quadrant ≡ s.quadrant = way.to_end ∙ sym (at ∙ ap (λ m. turned_by m b.quadrant) same) in
          let before' : by_zero s.x s.y e.x e.y = subst (λ m. IsNoLater m s.x s.y e.x e.y) none before in
          let flipped : Spoke = record { quadrant = s.quadrant; x = s.y; y = s.x } in
          let turned : IsNearBand a g r flipped =
          record { inside = band.inside; outside = band.outside; below = omega (arith, band.below); above = omega (arith, band.above) } in
          let turned_end : IsEnd a e.y e.x root =
          record { low = omega (arith, end.low); high = omega (arith, end.high); inner = end.inner; outer = omega (arith, end.outer); some = end.some } in
          let h = past_ray a g r flipped e.y e.x root turned turned_end (omega (arith, before')) in (
            e.x,
            e.y,
            h.1,
            h.0,
            subst (λ p. IsInHull a p) (way.end ∙ ap (λ (q : Quadrant). placed a (record { quadrant = q; x = e.x; y = e.y })) there) (end_held a),
          ))
      | inl more ↦ (
          let r' = outer_radius a in
          let held = axis_held a b e whole (suc here) way (omega (arith, at_most_one b.y)) (omega (arith, more)) few in
          let y = from_squares s.y (r + 2 * g) (omega (arith, band.below)) in
          let next : following s.quadrant ≡ turned_by (suc here) b.quadrant = ap following at in
          let axis : IsInHull a (placed a (record { quadrant = following s.quadrant; x = r'; y = 0 })) =
          subst (λ (q : Quadrant). IsInHull a (placed a (record { quadrant = q; x = r'; y = 0 }))) (sym next) held in (
            0,
            r',
            omega arith,
            omega (arith, y, band.outside),
            subst (λ (p : Point2). IsInHull a (shifted a.centre (mirrored a.turn p))) (sym (same_axis s.quadrant r')) axis,
          ))
    ]

pub between_rays : (a : ArcShape) (g r : ℕ) (b e s : Spoke) (whole here first last : ℕ) → IsRound a b e whole → whole ≤ 4 → IsNearBand a g r s →
    IsEnd a b.x b.y first → IsEnd a e.x e.y last →
    s.quadrant ≡ turned_by here b.quadrant → here ≤ whole → IsNoLater here b.x b.y s.x s.y → IsNoLater (whole - here) s.x s.y e.x e.y →
    IsNearHull a (2 * g + spread a) (placed a s)
between_rays a g r b e s whole here first last way few band start end at le past before =
    let p = behind_it a g r b e s whole here first way few band start at le past in
    let q = ahead_of_it a g r b e s whole here last way few band end at le before in
    held_between a s p.0 p.1 q.0 q.1 (2 * g + spread a) (record { far = p.2; above = p.3; near = q.2; below = q.3 }) p.4 q.4

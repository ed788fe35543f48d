-- A walk along a circle of at least eight steps.
use Rattle.std.proofs.Common.{◌≡◌, ℕ, ◌+◌, ◌-◌, ◌*◌, ◌<◌, ◌≤◌, ℤ, pos, ◌+ℤ◌, ◌-ℤ◌, ◌*ℤ◌, neg_ℤ, unsigned_abs, ◌⊎◌, inl, inr, refl, sym, ◌∙◌, ap, subst, arith}
use Rattle.std.proofs.lemmas.Bool.{cases_lt}
use Rattle.std.proofs.lemmas.Int.{ints}
use Rattle.std.proofs.Math.Nat.{mul-le-mul_left}
use borrow.Author.Differences.{neg_is}
use Rattle.ngc_fixed_length.specs.Places.{shifted}
use Rattle.ngc_fixed_length.specs.declared.modes.Turn.{Turn}
use Rattle.ngc_fixed_length.specs.declared.modes.Turn.TheVariants.{Clockwise, Counterclockwise}
use Rattle.ngc_fixed_length.specs.declared.points.Point2.{Point2}
use Rattle.ngc_circle_walk.specs.declared.spoke.Quadrant.{Quadrant}
use Rattle.ngc_circle_walk.specs.declared.spoke.Quadrant.TheVariants.{First, Second, Third, Fourth}
use Rattle.ngc_circle_walk.specs.declared.spoke.Spoke.{Spoke}
use Rattle.ngc_circle_walk.specs.Quadrants.{following}
use Rattle.ngc_circle_walk.specs.Around.{around}
use Rattle.ngc_circle_walk.specs.Bounds.{IsBelow, IsAbove}
use Rattle.ngc_circle_walk.proofs.Rays.{square_le}
use Rattle.ngc_circle_walk.proofs.NearEnd.{IsRim, limit_of}
use Rattle.ngc_circle_walk.proofs.Rolling.{all_below, all_above}
use Rattle.ngc_circle_walk.proofs.OverAxis.{by_axis_point}
use Rattle.ngc_arc_geometry.specs.Shape.{ArcShape}
use Rattle.ngc_arc_geometry.specs.Radii.{squared_distance, inner_radius, outer_radius}
use Rattle.ngc_arc_geometry.specs.Sector.{extremes}
use Rattle.ngc_arc_geometry.specs.ArcBand.{spread, IsWithin}
use Rattle.ngc_arc_geometry.specs.ArcOrder.{Passes}
use Rattle.ngc_arc_geometry.proofs.Squares.{square_sum}
use Rattle.ngc_circle_laws.specs.Placed.{mirrored, placed, first_axis}
use Rattle.ngc_circle_laws.proofs.CrossProducts.{same_axis}
use Rattle.ngc_circle_laws.specs.ArcWalk.{IsWalk}
use Rattle.ngc_circle_laws.proofs.PassedQuadrants.{passes}

-- ---- the distance between two points of one quadrant

abbrev pub gap : ℕ → ℕ → ℕ
gap x z = unsigned_abs (pos z -ℤ pos x)

squares : (p q : ℤ) (m n : ℕ) → unsigned_abs p ≡ m → unsigned_abs q ≡ n → unsigned_abs ((p *ℤ p) +ℤ (q *ℤ q)) ≡ m * m + n * n
squares p q m n hp hq = square_sum p q ∙ ap (λ t. t * t + unsigned_abs q * unsigned_abs q) hp ∙ ap (λ t. m * m + t * t) hq

placed_apart : (t : Turn) (c d e : Point2) → squared_distance (shifted c (mirrored t d)) (shifted c (mirrored t e))
    ≡ unsigned_abs (e.u -ℤ d.u) * unsigned_abs (e.u -ℤ d.u) + unsigned_abs (e.v -ℤ d.v) * unsigned_abs (e.v -ℤ d.v)
placed_apart Counterclockwise c d e =
    squares ((c.u +ℤ e.u) -ℤ (c.u +ℤ d.u)) ((c.v +ℤ e.v) -ℤ (c.v +ℤ d.v)) (unsigned_abs (e.u -ℤ d.u)) (unsigned_abs (e.v -ℤ d.v)) (omega (arith, ints))
    (omega (arith, ints))
placed_apart Clockwise c d e =
    let f = neg_is d.v in
    let g = neg_is e.v in
    squares ((c.u +ℤ e.u) -ℤ (c.u +ℤ d.u)) ((c.v +ℤ neg_ℤ e.v) -ℤ (c.v +ℤ neg_ℤ d.v)) (unsigned_abs (e.u -ℤ d.u)) (unsigned_abs (e.v -ℤ d.v))
    (omega (arith, ints)) (omega (arith, ints, f.0, f.1, g.0, g.1))

two_squares : (p q : ℤ) (m n : ℕ) → unsigned_abs p ≡ m → unsigned_abs q ≡ n → unsigned_abs p * unsigned_abs p + unsigned_abs q * unsigned_abs q ≡ m * m + n * n
two_squares p q m n hp hq = ap (λ t. t * t + unsigned_abs q * unsigned_abs q) hp ∙ ap (λ t. m * m + t * t) hq

around_apart : (q : Quadrant) (x y z w : ℕ) → (let d = around q x y in let e = around q z w in
    unsigned_abs (e.u -ℤ d.u) * unsigned_abs (e.u -ℤ d.u) + unsigned_abs (e.v -ℤ d.v) * unsigned_abs (e.v -ℤ d.v)) ≡ gap x z * gap x z + gap y w * gap y w
around_apart First x y z w = refl
around_apart Second x y z w =
    let f = neg_is (pos y) in let g = neg_is (pos w) in
    two_squares (neg_ℤ (pos w) -ℤ neg_ℤ (pos y)) (pos z -ℤ pos x) (gap y w) (gap x z) (omega (arith, ints, f.0, f.1, g.0, g.1)) refl ∙ omega arith
around_apart Third x y z w =
    let f = neg_is (pos y) in let g = neg_is (pos w) in let h = neg_is (pos x) in let i = neg_is (pos z) in
    two_squares (neg_ℤ (pos z) -ℤ neg_ℤ (pos x)) (neg_ℤ (pos w) -ℤ neg_ℤ (pos y)) (gap x z) (gap y w) (omega (arith, ints, h.0, h.1, i.0, i.1))
    (omega (arith, ints, f.0, f.1, g.0, g.1))
around_apart Fourth x y z w =
    let h = neg_is (pos x) in let i = neg_is (pos z) in
    two_squares (pos w -ℤ pos y) (neg_ℤ (pos z) -ℤ neg_ℤ (pos x)) (gap y w) (gap x z) refl (omega (arith, ints, h.0, h.1, i.0, i.1)) ∙ omega arith

pub spokes_apart : (a : ArcShape) (s : Spoke) (z w : ℕ) → squared_distance (placed a s) (placed a (record { quadrant = s.quadrant; x = z; y = w }))
    ≡ gap s.x z * gap s.x z + gap s.y w * gap s.y w
spokes_apart a s z w = placed_apart a.turn a.centre (around s.quadrant s.x s.y) (around s.quadrant z w) ∙ around_apart s.quadrant s.x s.y z w

-- ---- near an axis a point's distance from the centre differs from the radius of its wheel by at
-- most a step

pub along_axis : (g q h k l v x y : ℕ) → IsRim g q h k l v → v * v ≤ x * x + y * y + g * g → x * x + y * y ≤ limit_of q l + g * g → y ≤ g →
    (q + 1 ≤ x + g) × (x ≤ q + 1 + g)
along_axis g q h k l v x y r above below near =
    let m = g - l in
    let em : m + l ≡ g = omega (arith, r.l_high) in
    let wide : g ≤ 5 * m = omega (arith, r.l_high, em) in
    let yy = square_le y g near in
    let gg = mul-le-mul_left g r.step in (
      elim (cases_lt (x + g) (q + 1)) [
        | inr fine ↦ fine
        | inl short ↦ (
            let t = q + 1 - g in
            let et : t + g ≡ q + 1 = omega (arith, short) in
            let ev : v ≡ t + m = omega (arith, et, em, r.inner) in
            let vv : v * v ≡ (t + m) * (t + m) = rw ev refl in
            let xx = square_le x t (omega (arith, short, et)) in
            let a = mul-le-mul_left t wide in
            let b : 7 * g ≤ t = omega (arith, et, r.far) in
            let c = mul-le-mul_left g b in
            absurd (omega (arith, above, vv, xx, yy, a, c, gg)))
      ],
      elim (cases_lt (q + 1 + g) x) [
        | inr fine ↦ fine
        | inl long ↦ (
            let xx = square_le (q + 1 + g) x (omega (arith, long)) in
            let far : (q + 1 + g) * (q + 1 + g) ≡ (q + 1 + l + m) * (q + 1 + l + m) = (let e : q + 1 + g ≡ q + 1 + l + m = omega (arith, em) in rw e refl) in
            let a = mul-le-mul_left (q + 1) wide in
            let c = mul-le-mul_left g r.far in
            absurd (omega (arith, below, xx, far, a, c, gg)))
      ],
    )

-- ---- a walk near its circle

-- what the two bounds of a wheel require of its limit
pub limit_grows : (g q h k l v : ℕ) → IsRim g q h k l v → limit_of q h ≤ limit_of q l
limit_grows g q h k l v r = square_le (q + 1 + h) (q + 1 + l) (omega (arith, r.h_high, r.l_low, r.step))

limit_inside : (g q h k l v : ℕ) → IsRim g q h k l v → (v + g) * (v + g) ≤ limit_of q h
limit_inside g q h k l v r = square_le (v + g) (q + 1 + h) (omega (arith, r.inner, r.h_low, r.l_low))

pub wide_limit : (g q h k l v : ℕ) → IsRim g q h k l v → 2 * (g * g) ≤ limit_of q h
wide_limit g q h k l v r = let a = square_le (2 * g) (q + 1 + h) (omega (arith, r.far)) in omega (arith, a)

wide_inside : (g q h k l v : ℕ) → IsRim g q h k l v → 2 * (g * g) ≤ v * v
wide_inside g q h k l v r = let a = square_le (2 * g) v (omega (arith, r.far, r.inner, r.l_high)) in omega (arith, a)

-- A walk whose first point is near the circle of radius q + 1, which is between the arc's two
-- radii. A half axis on which the walk begins, or past which it begins, and which is not before the
-- start, is less than a step before its first point. The walk ends in the quadrant of the arc's
-- end, or at a point from which the next move leads over the axis into that quadrant.
pub record IsCircuit (a : ArcShape) (g q h k l v n : ℕ) (at : ℕ → Spoke) (quadrant : ℕ → ℕ) (b e : Spoke) (begun left : ℕ) : Type 0 where
  pub walk : IsWalk a g (limit_of q h) n at quadrant b e begun left
  pub rim : IsRim g q h k l v
  pub below : IsBelow g (limit_of q l) (at 0)
  pub above : IsAbove g v (at 0)
  pub inside : inner_radius a ≤ q + 1
  pub outside : q + 1 ≤ outer_radius a
  pub soon : begun ≤ first_axis b.y
  pub beside : first_axis b.y ≤ begun → (at 0).y ≤ g
  pub ends : (quadrant n ≡ left) ⊎ ((quadrant n + 1 ≡ left) × ((at n).x < g))

pub below_on : (a : ArcShape) (g q h k l v n : ℕ) (at : ℕ → Spoke) (quadrant : ℕ → ℕ) (b e : Spoke) (begun left i : ℕ) →
    IsCircuit a g q h k l v n at quadrant b e begun left → i ≤ n → IsBelow g (limit_of q l) (at i)
below_on a g q h k l v n at quadrant b e begun left i c le =
    let more = limit_grows g q h k l v c.rim in
    all_below g (limit_of q h) (limit_of q l) n at quadrant i c.walk.rolling more (omega (arith, more, wide_limit g q h k l v c.rim)) c.below le

pub above_on : (a : ArcShape) (g q h k l v n : ℕ) (at : ℕ → Spoke) (quadrant : ℕ → ℕ) (b e : Spoke) (begun left i : ℕ) →
    IsCircuit a g q h k l v n at quadrant b e begun left → i ≤ n → IsAbove g v (at i)
above_on a g q h k l v n at quadrant b e begun left i c le =
    all_above g v (limit_of q h) n at quadrant i c.walk.rolling (limit_inside g q h k l v c.rim) (wide_inside g q h k l v c.rim) c.above le

pub gap_up : (x z d : ℕ) → x ≤ z + d → z ≤ x + d → gap x z ≤ d
gap_up x z d hx hz = omega (arith, ints, hx, hz)

-- a point at most a step past an axis is near the axis' quadrant point, and so is one at most a
-- step before it
pub by_first : (a : ArcShape) (s : Spoke) (g q h k l v d : ℕ) → IsRim g q h k l v → IsBelow g (limit_of q l) s → IsAbove g v s → inner_radius a ≤ q + 1 →
    q + 1 ≤ outer_radius a →
    spread a + 2 * g ≤ d → s.y ≤ g → IsWithin d (placed a s) (placed a (record { quadrant = s.quadrant; x = outer_radius a; y = 0 }))
by_first a s g q h k l v d r below above inside outside wide near =
    let along = along_axis g q h k l v s.x s.y r above.all below.all near in
    let aside : gap s.y 0 ≤ g = gap_up s.y 0 g (omega (arith, near)) (omega arith) in
    let off : gap s.x (outer_radius a) ≤ spread a + g = gap_up s.x (outer_radius a) (spread a + g) (omega (arith, along.1, outside))
    (omega (arith, along.0, inside)) in
    let m = by_axis_point g (gap s.y 0) (gap s.x (outer_radius a)) (spread a) aside off in
    let w = square_le (spread a + 2 * g) d wide in
    subst (λ t. t ≤ d * d) (sym (spokes_apart a s (outer_radius a) 0)) (omega (arith, m, w))

pub by_second : (a : ArcShape) (s : Spoke) (g q h k l v d : ℕ) → IsRim g q h k l v → IsBelow g (limit_of q l) s → IsAbove g v s → inner_radius a ≤ q + 1 →
    q + 1 ≤ outer_radius a →
    spread a + 2 * g ≤ d → s.x ≤ g → IsWithin d (placed a s) (placed a (record { quadrant = following s.quadrant; x = outer_radius a; y = 0 }))
by_second a s g q h k l v d r below above inside outside wide near =
    let along = along_axis g q h k l v s.y s.x r (omega (arith, above.all)) (omega (arith, below.all)) near in
    let aside : gap s.x 0 ≤ g = gap_up s.x 0 g (omega (arith, near)) (omega arith) in
    let off : gap s.y (outer_radius a) ≤ spread a + g = gap_up s.y (outer_radius a) (spread a + g) (omega (arith, along.1, outside))
    (omega (arith, along.0, inside)) in
    let m = by_axis_point g (gap s.x 0) (gap s.y (outer_radius a)) (spread a) aside off in
    let w = square_le (spread a + 2 * g) d wide in
    let far : squared_distance (placed a s) (placed a (record { quadrant = s.quadrant; x = 0; y = outer_radius a })) ≤ d * d =
    subst (λ t. t ≤ d * d) (sym (spokes_apart a s 0 (outer_radius a))) (omega (arith, m, w)) in
    subst (λ (p : Point2). squared_distance (placed a s) (shifted a.centre (mirrored a.turn p)) ≤ d * d) (same_axis s.quadrant (outer_radius a)) far

-- so it passes the quadrant points of its arc
pub walk_passes : (a : ArcShape) (g q h k l v n : ℕ) (at : ℕ → Spoke) (quadrant : ℕ → ℕ) (b e : Spoke) (begun left d : ℕ) →
    IsCircuit a g q h k l v n at quadrant b e begun left →
    spread a + 2 * g ≤ d → Passes (λ k. placed a (at k)) n d 0 (extremes a)
walk_passes a g q h k l v n at quadrant b e begun left d w wide =
    passes a g (limit_of q h) d n at quadrant b e begun left (record {
      walk = w.walk;
      afterwards = λ i le near. by_first a (at i) g q h k l v d w.rim (below_on a g q h k l v n at quadrant b e begun left i w le)
          (above_on a g q h k l v n at quadrant b e begun left i w le) w.inside w.outside wide near;
      before = λ i le near. by_second a (at i) g q h k l v d w.rim (below_on a g q h k l v n at quadrant b e begun left i w le)
          (above_on a g q h k l v n at quadrant b e begun left i w le) w.inside w.outside wide near;
      some_radius = omega (arith, w.outside);
      soon = w.soon;
      beside = w.beside;
      ends = w.ends;
    })

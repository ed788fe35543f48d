-- The points of the first straight part of an arc's course: their distances from the arc's start,
-- and from its circles.
use Rattle.std.proofs.Common.{◌≡◌, ℕ, ◌+◌, ◌-◌, ◌*◌, ◌<◌, ◌≤◌, inl, inr, pos, ◌+ℤ◌, ◌-ℤ◌, ◌*ℤ◌, unsigned_abs, arith, ap, subst}
use Rattle.std.proofs.lemmas.Bool.{cases_lt}
use Rattle.std.proofs.Math.Nat.{mul-le-mul_left, le_of_mul-le-mul_left}
use Rattle.ngc_fixed_length.specs.Grid.{distance}
use Rattle.ngc_fixed_length.specs.Roots.{IsRootCeil}
use Rattle.ngc_circle_walk.proofs.Rays.{square_le}
use Rattle.ngc_arc_geometry.specs.Shape.{ArcShape, start_of}
use Rattle.ngc_arc_geometry.specs.Radii.{squared_distance, inner_radius, outer_radius, IsArc}
use Rattle.ngc_arc_geometry.specs.ArcBand.{spread, IsWithin, IsInBand}
use Rattle.ngc_arc_geometry.specs.ArcSides.{IsByAnEnd}
use Rattle.ngc_step_kernel.specs.declared.spot.Spot.{Spot}
use Rattle.ngc_step_kernel.specs.PlaneCourse.{laid}
use Rattle.ngc_step_kernel.specs.Spots.{straight_at, straight_place}
use Rattle.ngc_step_kernel.specs.View.{squared, view_of, IsMoved, IsNearestSpot}
use Rattle.ngc_step_kernel.proofs.AroundLemmas.{some_root}
use Rattle.ngc_step_kernel.proofs.FirstPart.{IsFirstAxis, AreRadii, first_axis_near}
use Rattle.ngc_step_kernel.proofs.PlaneApart.{start_apart, centre_apart, sides_above, sides_below}
use Rattle.ngc_step_kernel.proofs.StraightParts.{inner_below, start_between}
use Rattle.ngc_step_kernel.proofs.ViewLemmas.{start_radius}

-- ---- for numbers

some_square : (s : ℕ) → 0 < s → 0 < (2 * s) * (2 * s)
some_square s some = let a = square_le 1 s some in omega (arith, a)

twice_square : (k : ℕ) → k * k + k * k ≤ (2 * k) * (2 * k)
twice_square k = omega arith

-- if the sizes on both axes are at most o/s times bu and bv, plus half a step, their length is at
-- most o plus a step
both_axes : (g s o bu bv yu yv : ℕ) → 0 < s → bu * bu + bv * bv ≤ s * s → 2 * (s * yu) ≤ 2 * (o * bu) + s * g → 2 * (s * yv) ≤ 2 * (o * bv) + s * g →
    yu * yu + yv * yv ≤ (o + g) * (o + g)
both_axes g s o bu bv yu yv some round hu hv =
    let m = mul-le-mul_left (o * o) round in
    let a : (2 * (o * bu)) * (2 * (o * bu)) + (2 * (o * bv)) * (2 * (o * bv)) ≤ (2 * (o * s)) * (2 * (o * s)) = omega (arith, m) in
    let c = sides_above (2 * (o * bu)) (2 * (o * bv)) (s * g) (s * g) (2 * (s * yu)) (2 * (s * yv)) (2 * (o * s)) (2 * (s * g)) hu hv a
    (twice_square (s * g)) in
    let d : ((2 * s) * (2 * s)) * (yu * yu + yv * yv) ≤ ((2 * s) * (2 * s)) * ((o + g) * (o + g)) = omega (arith, c) in
    le_of_mul-le-mul_left d (some_square s some)

-- if the sizes on both axes are at least (t + g)/(p + 1) times bu and bv, less half a step, their
-- length is at least t
both_axes_far : (g p t bu bv xu xv : ℕ) → 4 ≤ g → t + g ≤ p + 1 → p * p ≤ bu * bu + bv * bv → 2 * ((t + g) * bu) ≤ 2 * ((p + 1) * xu) + (p + 1) * g →
    2 * ((t + g) * bv) ≤ 2 * ((p + 1) * xv) + (p + 1) * g →
    t * t ≤ xu * xu + xv * xv
both_axes_far g p t bu bv xu xv step inside low hu hv =
    let s = p + 1 in
    let m = t + g in
    let n = mul-le-mul_left (m * m) low in
    let a : (4 * (m * p)) * (4 * (m * p)) ≤ (4 * (m * bu)) * (4 * (m * bu)) + (4 * (m * bv)) * (4 * (m * bv)) = omega (arith, n) in
    let b : (2 * (s * g)) * (2 * (s * g)) + (2 * (s * g)) * (2 * (s * g)) ≤ (3 * (s * g)) * (3 * (s * g)) = omega arith in
    let c = sides_below (4 * (m * bu)) (4 * (m * bv)) (2 * (s * g)) (2 * (s * g)) (4 * (s * xu)) (4 * (s * xv)) (4 * (m * p)) (3 * (s * g)) (omega (arith, hu))
    (omega (arith, hv)) a b in
    let d = mul-le-mul_left p step in
    let e : 4 * (s * t) ≤ 4 * (m * p) - 3 * (s * g) = omega (arith, d, inside, step) in
    let f = square_le (4 * (s * t)) (4 * (m * p) - 3 * (s * g)) e in
    let h : ((2 * s) * (2 * s)) * (t * t) ≤ ((2 * s) * (2 * s)) * (xu * xu + xv * xv) = omega (arith, f, c) in
    le_of_mul-le-mul_left h (some_square s (omega arith))

no_nearer : (g s q m bu bv xu xv : ℕ) → 4 ≤ g → q + 1 ≡ s → m ≤ s → q * q ≤ bu * bu + bv * bv → 2 * (m * bu) ≤ 2 * (s * xu) + s * g →
    2 * (m * bv) ≤ 2 * (s * xv) + s * g →
    (m - g) * (m - g) ≤ xu * xu + xv * xv
no_nearer g s q m bu bv xu xv step es inside low hu hv =
    elim (cases_lt m g) [
      | inl none ↦ (let e : m - g ≡ 0 = omega (arith, none) in let f : (m - g) * (m - g) ≡ 0 = ap (λ t. t * t) e in omega (arith, f))
      | inr some ↦ (
          let t = m - g in
          let em : t + g ≡ m = omega (arith, some) in
          let a : (q + 1) * g ≡ s * g = ap (λ z. z * g) es in
          let au : (q + 1) * xu ≡ s * xu = ap (λ z. z * xu) es in
          let av : (q + 1) * xv ≡ s * xv = ap (λ z. z * xv) es in
          let bm : (t + g) * bu ≡ m * bu = ap (λ z. z * bu) em in
          let bn : (t + g) * bv ≡ m * bv = ap (λ z. z * bv) em in
          both_axes_far g q t bu bv xu xv step (omega (arith, es, em, inside)) low (omega (arith, hu, a, au, bm)) (omega (arith, hv, a, av, bn)))
    ]

-- ---- the first part, from p to j

ceil_low : (n s q : ℕ) → IsRootCeil n s → q + 1 ≡ s → q * q ≤ n
ceil_low n s q root e =
    elim (cases_lt n (q * q)) [
      | inr fine ↦ fine
      | inl less ↦ (let a = root.least q (omega (arith, less)) in absurd (omega (arith, a, e)))
    ]

-- p is the grid point nearest to the start, s the start's radius, rounded up, and j the joint at
-- the radius r; both radii are between m and o, and differ by at most h
pub record IsFirstPart (a : ArcShape) (g s r m o h : ℕ) (p j : Spot) : Type 0 where
  pub step : 500 ≤ g
  pub radii : AreRadii s r m o h
  pub root : IsRootCeil (squared (view_of a).start) s
  pub nearest : IsNearestSpot g (view_of a).centre (view_of a).start p
  pub moved_u : IsMoved g s r (view_of a).centre.u (view_of a).start.u j.u
  pub moved_v : IsMoved g s r (view_of a).centre.v (view_of a).start.v j.v

along_u : (a : ArcShape) (g s r m o h : ℕ) (p j : Spot) (k : ℕ) → IsFirstPart a g s r m o h p j →
    IsFirstAxis g s m o h (unsigned_abs ((straight_place p.u j.u k *ℤ pos g) -ℤ (view_of a).centre.u)) (unsigned_abs (view_of a).start.u)
    (distance ((view_of a).centre.u +ℤ (view_of a).start.u) (straight_place p.u j.u k *ℤ pos g))
along_u a g s r m o h p j k f = first_axis_near g s r m o h (view_of a).centre.u (view_of a).start.u p.u j.u k f.radii f.nearest.u f.moved_u

along_v : (a : ArcShape) (g s r m o h : ℕ) (p j : Spot) (k : ℕ) → IsFirstPart a g s r m o h p j →
    IsFirstAxis g s m o h (unsigned_abs ((straight_place p.v j.v k *ℤ pos g) -ℤ (view_of a).centre.v)) (unsigned_abs (view_of a).start.v)
    (distance ((view_of a).centre.v +ℤ (view_of a).start.v) (straight_place p.v j.v k *ℤ pos g))
along_v a g s r m o h p j k f = first_axis_near g s r m o h (view_of a).centre.v (view_of a).start.v p.v j.v k f.radii f.nearest.v f.moved_v

-- each point is at most h plus a step from the start
pub start_within : (a : ArcShape) (g s r m o h : ℕ) (p j : Spot) (k : ℕ) → IsFirstPart a g s r m o h p j →
    IsWithin (h + g) (start_of a) (laid g a.turn (straight_at p j k))
start_within a g s r m o h p j k f =
    let u = along_u a g s r m o h p j k f in
    let v = along_v a g s r m o h p j k f in
    let n = both_axes g s h (unsigned_abs (view_of a).start.u) (unsigned_abs (view_of a).start.v)
    (distance ((view_of a).centre.u +ℤ (view_of a).start.u) (straight_place p.u j.u k *ℤ pos g))
    (distance ((view_of a).centre.v +ℤ (view_of a).start.v) (straight_place p.v j.v k *ℤ pos g)) f.radii.some f.root.square u.near v.near in
    omega (arith, n, start_apart a g (straight_at p j k))

-- at most o plus a step from the centre
pub first_above : (a : ArcShape) (g s r m o h : ℕ) (p j : Spot) (k : ℕ) → IsFirstPart a g s r m o h p j →
    squared_distance a.centre (laid g a.turn (straight_at p j k)) ≤ (o + g) * (o + g)
first_above a g s r m o h p j k f =
    let u = along_u a g s r m o h p j k f in
    let v = along_v a g s r m o h p j k f in
    let n = both_axes g s o (unsigned_abs (view_of a).start.u) (unsigned_abs (view_of a).start.v)
    (unsigned_abs ((straight_place p.u j.u k *ℤ pos g) -ℤ (view_of a).centre.u))
    (unsigned_abs ((straight_place p.v j.v k *ℤ pos g) -ℤ (view_of a).centre.v)) f.radii.some f.root.square u.up v.up in
    omega (arith, n, centre_apart a g (straight_at p j k))

-- and at least m less a step from it
pub first_below : (a : ArcShape) (g s r m o h : ℕ) (p j : Spot) (k : ℕ) → IsFirstPart a g s r m o h p j →
    (m - g) * (m - g) ≤ squared_distance a.centre (laid g a.turn (straight_at p j k))
first_below a g s r m o h p j k f =
    let u = along_u a g s r m o h p j k f in
    let v = along_v a g s r m o h p j k f in
    let q = s - 1 in
    let e : q + 1 ≡ s = omega (arith, f.radii.some) in
    let low = ceil_low (squared (view_of a).start) s q f.root e in
    let n = no_nearer g s q m (unsigned_abs (view_of a).start.u) (unsigned_abs (view_of a).start.v)
    (unsigned_abs ((straight_place p.u j.u k *ℤ pos g) -ℤ (view_of a).centre.u))
    (unsigned_abs ((straight_place p.v j.v k *ℤ pos g) -ℤ (view_of a).centre.v)) (omega (arith, f.step)) e f.radii.m_s low u.down v.down in
    omega (arith, n, centre_apart a g (straight_at p j k))

-- ---- for an arc: the joint's radius r is between the arc's two, to within d

pub first_part : (a : ArcShape) (g s r d : ℕ) (p j : Spot) → IsArc a → 500 ≤ g → IsRootCeil (squared (view_of a).start) s → inner_radius a ≤ r →
    r ≤ outer_radius a + d →
    IsNearestSpot g (view_of a).centre (view_of a).start p → IsMoved g s r (view_of a).centre.u (view_of a).start.u j.u →
    IsMoved g s r (view_of a).centre.v (view_of a).start.v j.v →
    IsFirstPart a g s r (inner_radius a) (outer_radius a + d) (spread a + d) p j
first_part a g s r d p j arc step root inside outside nearest moved_u moved_v =
    let b = start_between a s arc root in
    let le = inner_below a arc in
    let some = some_root (squared (view_of a).start) s (start_radius a arc).some root.square in
    record {
      step = step;
      radii = record {
        some = some;
        m_s = b.0;
        m_r = inside;
        s_o = omega (arith, b.1);
        r_o = outside;
        r_s = omega (arith, b.0, outside, le);
        s_r = omega (arith, b.1, inside, le);
      };
      root = root;
      nearest = nearest;
      moved_u = moved_u;
      moved_v = moved_v;
    }

-- each point of the first part is near the start
pub first_by_end : (a : ArcShape) (g s r d : ℕ) (p j : Spot) (k : ℕ) → IsFirstPart a g s r (inner_radius a) (outer_radius a + d) (spread a + d) p j →
    IsByAnEnd a (g + spread a + d) (laid g a.turn (straight_at p j k))
first_by_end a g s r d p j k f =
    let e : spread a + d + g ≡ g + spread a + d = omega arith in
    inl (subst (λ n. IsWithin n (start_of a) (laid g a.turn (straight_at p j k))) e
    (start_within a g s r (inner_radius a) (outer_radius a + d) (spread a + d) p j k f))

-- and in the band
pub first_in_band : (a : ArcShape) (g s r d w : ℕ) (p j : Spot) (k : ℕ) → IsFirstPart a g s r (inner_radius a) (outer_radius a + d) (spread a + d) p j →
    g + d ≤ w → IsInBand a w (laid g a.turn (straight_at p j k))
first_in_band a g s r d w p j k f wide =
    let i = square_le (inner_radius a - w) (inner_radius a - g) (omega (arith, wide)) in
    let o = square_le (outer_radius a + d + g) (outer_radius a + w) (omega (arith, wide)) in
    let above = first_above a g s r (inner_radius a) (outer_radius a + d) (spread a + d) p j k f in
    let below = first_below a g s r (inner_radius a) (outer_radius a + d) (spread a + d) p j k f in
    record { inner = omega (arith, i, below); outer = omega (arith, o, above) }

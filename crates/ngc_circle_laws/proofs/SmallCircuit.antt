-- A walk along a circle of two and a quarter to eight steps, which follows an arc whose radii are small: within four steps.
use Rattle.std.proofs.Common.{◌≡◌, ℕ, ◌+◌, ◌-◌, ◌*◌, ◌<◌, ◌≤◌, ◌⊎◌, inl, inr, sym, subst, arith}
use Rattle.std.proofs.lemmas.Bool.{cases_lt}
use Rattle.std.proofs.Math.Nat.{mul-le-mul_left}
use Rattle.ngc_fixed_length.specs.Places.{shifted}
use Rattle.ngc_fixed_length.specs.declared.points.Point2.{Point2}
use Rattle.ngc_circle_walk.specs.declared.spoke.Spoke.{Spoke}
use Rattle.ngc_circle_walk.specs.Bounds.{IsBelow, IsAbove}
use Rattle.ngc_circle_walk.specs.Quadrants.{following}
use Rattle.ngc_circle_walk.proofs.WheelStart.{IsSmallSize, more_limit, less_limit, twice_low, twice_high}
use Rattle.ngc_circle_walk.proofs.Rays.{square_le}
use Rattle.ngc_circle_walk.proofs.Rolling.{all_below, all_above}
use Rattle.ngc_arc_geometry.specs.Shape.{ArcShape}
use Rattle.ngc_arc_geometry.specs.Radii.{squared_distance, inner_radius, outer_radius}
use Rattle.ngc_arc_geometry.specs.Sector.{extremes}
use Rattle.ngc_arc_geometry.specs.ArcBand.{spread, IsWithin, IsInBand}
use Rattle.ngc_arc_geometry.specs.ArcOrder.{Passes}
use Rattle.ngc_circle_laws.specs.Placed.{mirrored, placed, first_axis}
use Rattle.ngc_circle_laws.specs.ArcWalk.{IsWalk}
use Rattle.ngc_circle_laws.proofs.ArcBoxes.{IsNearBand}
use Rattle.ngc_circle_laws.proofs.Circuit.{gap, gap_up, spokes_apart}
use Rattle.ngc_circle_laws.proofs.CrossProducts.{same_axis}
use Rattle.ngc_circle_laws.proofs.Lifts.{square_placed}
use Rattle.ngc_circle_laws.proofs.PassedQuadrants.{passes}

-- the circle is that of the arc's end, at the radius r; if that is less than two and a quarter
-- steps, it is a circle of two and a quarter steps
pub record IsSmallCircuit (a : ArcShape) (g o h l m v r n : ℕ) (at : ℕ → Spoke) (quadrant : ℕ → ℕ) (b e : Spoke) (begun left : ℕ) : Type 0 where
  pub walk : IsWalk a g ((o + h) * (o + h)) n at quadrant b e begun left
  pub size : IsSmallSize g o h l m v
  pub small : o ≤ 8 * g
  pub below : IsBelow g ((o + l) * (o + l)) (at 0)
  pub above : IsAbove g v (at 0)
  pub inside : inner_radius a ≤ r
  pub outside : r ≤ outer_radius a
  pub circle : (o ≡ r) ⊎ ((r ≤ o) × (4 * o ≤ 9 * g + 4) × (3 * g ≤ 2 * r))
  pub soon : begun ≤ first_axis b.y
  pub beside : first_axis b.y ≤ begun → (at 0).y ≤ g
  pub ends : (quadrant n ≡ left) ⊎ ((quadrant n + 1 ≡ left) × ((at n).x < g))

pub no_less : (g o r : ℕ) → 500 ≤ g → (o ≡ r) ⊎ ((r ≤ o) × (4 * o ≤ 9 * g + 4) × (3 * g ≤ 2 * r)) → (r ≤ o) × (o ≤ r + g)
no_less g o r step (inl e) = (omega (arith, e), omega (arith, e))
no_less g o r step (inr e) = (e.0, omega (arith, e.1, e.2, step))

pub small_below : (a : ArcShape) (g o h l m v r n : ℕ) (at : ℕ → Spoke) (quadrant : ℕ → ℕ) (b e : Spoke) (begun left i : ℕ) →
    IsSmallCircuit a g o h l m v r n at quadrant b e begun left → i ≤ n → IsBelow g ((o + l) * (o + l)) (at i)
small_below a g o h l m v r n at quadrant b e begun left i c le =
    all_below g ((o + h) * (o + h)) ((o + l) * (o + l)) n at quadrant i c.walk.rolling (more_limit g o h l m v c.size)
    (twice_high g o h l m v c.size) c.below le

pub small_above : (a : ArcShape) (g o h l m v r n : ℕ) (at : ℕ → Spoke) (quadrant : ℕ → ℕ) (b e : Spoke) (begun left i : ℕ) →
    IsSmallCircuit a g o h l m v r n at quadrant b e begun left → i ≤ n → IsAbove g v (at i)
small_above a g o h l m v r n at quadrant b e begun left i c le =
    all_above g v ((o + h) * (o + h)) n at quadrant i c.walk.rolling (less_limit g o h l m v c.size) (twice_low g o h l m v c.size) c.above le

-- ---- sizes

-- between the circles two steps inside and two steps outside
out_of_wheel : (g o h l m v r n : ℕ) → IsSmallSize g o h l m v → (o ≡ r) ⊎ ((r ≤ o) × (4 * o ≤ 9 * g + 4) × (3 * g ≤ 2 * r)) → n ≤ (o + l) * (o + l) + g * g →
    n ≤ (r + 2 * g) * (r + 2 * g)
out_of_wheel g o h l m v r n z (inl e) below =
    let lo : 10 * (o + l) ≤ 10 * r + 11 * g = omega (arith, e, z.l_high) in
    let a = square_le (10 * (o + l)) (10 * r + 11 * g) lo in
    let b = mul-le-mul_left g (let k : 9 * g ≤ 4 * r = omega (arith, e, z.least) in k) in
    omega (arith, below, a, b)
out_of_wheel g o h l m v r n z (inr e) below =
    let lo : 20 * (o + l) ≤ 67 * g + 20 = omega (arith, e.1, z.l_high) in
    let a = square_le (20 * (o + l)) (67 * g + 20) lo in
    let up = square_le (7 * g) (2 * (r + 2 * g)) (omega (arith, e.2)) in
    let b = mul-le-mul_left g z.step in
    omega (arith, below, a, up, b, z.step)

pub small_near : (a : ArcShape) (g o h l m v r n : ℕ) (at : ℕ → Spoke) (quadrant : ℕ → ℕ) (b e : Spoke) (begun left i : ℕ) →
    IsSmallCircuit a g o h l m v r n at quadrant b e begun left → i ≤ n → IsNearBand a g r (at i)
small_near a g o h l m v r n at quadrant b e begun left i c le =
    let z = c.size in
    let near = no_less g o r z.step c.circle in
    let below = small_below a g o h l m v r n at quadrant b e begun left i c le in
    let above = small_above a g o h l m v r n at quadrant b e begun left i c le in
    record {
      inside = c.inside;
      outside = c.outside;
      below = out_of_wheel g o h l m v r ((at i).x * (at i).x + (at i).y * (at i).y) z c.circle below.all;
      above = (
          let t = o - 2 * g in
          let et : t + 2 * g ≡ o = omega (arith, z.least) in
          let ev : t + g ≤ v = omega (arith, et, z.inner, z.m_high) in
          let a = square_le (t + g) v ev in
          let b = square_le (r - 2 * g) t (omega (arith, et, near.0)) in
          omega (arith, above.all, a, b));
    }

pub small_in_band : (a : ArcShape) (g o h l m v r n : ℕ) (at : ℕ → Spoke) (quadrant : ℕ → ℕ) (b e : Spoke) (begun left i : ℕ) →
    IsSmallCircuit a g o h l m v r n at quadrant b e begun left → i ≤ n → IsInBand a (4 * g) (placed a (at i))
small_in_band a g o h l m v r n at quadrant b e begun left i c le =
    let near = small_near a g o h l m v r n at quadrant b e begun left i c le in
    let e = square_placed a (at i) in
    let up = square_le (r + 2 * g) (outer_radius a + 4 * g) (omega (arith, c.outside)) in
    let down = square_le (inner_radius a - 4 * g) (r - 2 * g) (omega (arith, c.inside)) in
    record { inner = omega (arith, e, near.above, down); outer = omega (arith, e, near.below, up) }

-- ---- beside an axis

along_axis : (g o h l m v x y : ℕ) → IsSmallSize g o h l m v → v * v ≤ x * x + y * y + g * g → x * x + y * y ≤ ((o + l) * (o + l)) + g * g → y ≤ g →
    (o ≤ x + 4 * g) × (x ≤ o + 3 * g)
along_axis g o h l m v x y z above below near =
    let yy = square_le y g near in (
      elim (cases_lt (x + 4 * g) (o)) [
        | inr fine ↦ fine
        | inl short ↦ (
            let t = o - 4 * g in
            let et : t + 4 * g ≡ o = omega (arith, short) in
            let ev : t + 3 * g ≤ v = omega (arith, et, z.inner, z.m_high) in
            let vv = square_le (t + 3 * g) v ev in
            let xx = square_le x t (omega (arith, short, et)) in
            let some = mul-le-mul_left g z.step in
            absurd (omega (arith, above, vv, xx, yy, some, z.step)))
      ],
      elim (cases_lt (o + 3 * g) x) [
        | inr fine ↦ fine
        | inl long ↦ (
            let xx = square_le (o + 3 * g) x (omega (arith, long)) in
            let a = square_le (o + l) (o + 2 * g) (omega (arith, z.l_high)) in
            let some = mul-le-mul_left g z.step in
            absurd (omega (arith, below, xx, a, some, z.step)))
      ],
    )

both_squares : (x y m d : ℕ) → x + y ≤ m → m ≤ d → x * x + y * y ≤ d * d
both_squares x y m d h k = let a = square_le (x + y) d (omega (arith, h, k)) in omega (arith, a)

pub by_first : (a : ArcShape) (s : Spoke) (g o h l m v r d : ℕ) → IsSmallSize g o h l m v → IsBelow g ((o + l) * (o + l)) s → IsAbove g v s →
    inner_radius a ≤ r → r ≤ outer_radius a → (r ≤ o) × (o ≤ r + g) →
    spread a + 5 * g ≤ d → s.y ≤ g → IsWithin d (placed a s) (placed a (record { quadrant = s.quadrant; x = outer_radius a; y = 0 }))
by_first a s g o h l m v r d z below above inside outside circle wide near =
    let along = along_axis g o h l m v s.x s.y z above.all below.all near in
    let aside : gap s.y 0 ≤ g = gap_up s.y 0 g (omega (arith, near)) (omega arith) in
    let off : gap s.x (outer_radius a) ≤ spread a + 4 * g = gap_up s.x (outer_radius a) (spread a + 4 * g) (omega (arith, along.1, outside, circle.1))
    (omega (arith, along.0, inside, circle.0)) in
    let w = both_squares (gap s.x (outer_radius a)) (gap s.y 0) (spread a + 5 * g) d (omega (arith, aside, off)) wide in
    subst (λ t. t ≤ d * d) (sym (spokes_apart a s (outer_radius a) 0)) w

pub by_second : (a : ArcShape) (s : Spoke) (g o h l m v r d : ℕ) → IsSmallSize g o h l m v → IsBelow g ((o + l) * (o + l)) s → IsAbove g v s →
    inner_radius a ≤ r → r ≤ outer_radius a → (r ≤ o) × (o ≤ r + g) →
    spread a + 5 * g ≤ d → s.x ≤ g → IsWithin d (placed a s) (placed a (record { quadrant = following s.quadrant; x = outer_radius a; y = 0 }))
by_second a s g o h l m v r d z below above inside outside circle wide near =
    let along = along_axis g o h l m v s.y s.x z (omega (arith, above.all)) (omega (arith, below.all)) near in
    let aside : gap s.x 0 ≤ g = gap_up s.x 0 g (omega (arith, near)) (omega arith) in
    let off : gap s.y (outer_radius a) ≤ spread a + 4 * g = gap_up s.y (outer_radius a) (spread a + 4 * g) (omega (arith, along.1, outside, circle.1))
    (omega (arith, along.0, inside, circle.0)) in
    let w = both_squares (gap s.x 0) (gap s.y (outer_radius a)) (spread a + 5 * g) d (omega (arith, aside, off)) wide in
    let far : squared_distance (placed a s) (placed a (record { quadrant = s.quadrant; x = 0; y = outer_radius a })) ≤ d * d =
    subst (λ t. t ≤ d * d) (sym (spokes_apart a s 0 (outer_radius a))) w in
    subst (λ (p : Point2). squared_distance (placed a s) (shifted a.centre (mirrored a.turn p)) ≤ d * d) (same_axis s.quadrant (outer_radius a)) far

pub small_passes : (a : ArcShape) (g o h l m v r n : ℕ) (at : ℕ → Spoke) (quadrant : ℕ → ℕ) (b e : Spoke) (begun left d : ℕ) →
    IsSmallCircuit a g o h l m v r n at quadrant b e begun left →
    spread a + 5 * g ≤ d → Passes (λ k. placed a (at k)) n d 0 (extremes a)
small_passes a g o h l m v r n at quadrant b e begun left d c wide =
    passes a g ((o + h) * (o + h)) d n at quadrant b e begun left (record {
      walk = c.walk;
      afterwards = λ i le near. by_first a (at i) g o h l m v r d c.size (small_below a g o h l m v r n at quadrant b e begun left i c le)
          (small_above a g o h l m v r n at quadrant b e begun left i c le) c.inside c.outside (no_less g o r c.size.step c.circle) wide near;
      before = λ i le near. by_second a (at i) g o h l m v r d c.size (small_below a g o h l m v r n at quadrant b e begun left i c le)
          (small_above a g o h l m v r n at quadrant b e begun left i c le) c.inside c.outside (no_less g o r c.size.step c.circle) wide near;
      some_radius = (let near = no_less g o r c.size.step c.circle in omega (arith, near, c.outside, c.size.least, c.size.step));
      soon = c.soon;
      beside = c.beside;
      ends = c.ends;
    })

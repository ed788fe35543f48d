-- A last straight part of one or two moves: from a grid point less than 7/4 steps from the arc's end on both axes, and on one of them less than 3/2.
use Rattle.std.proofs.Common.{◌≡◌, ℕ, zero, suc, ◌+◌, ◌-◌, ◌*◌, ◌<◌, ◌≤◌, ◌⊎◌, inl, inr, min, ℤ, pos, ◌+ℤ◌, ◌-ℤ◌, ◌*ℤ◌, ◌≤ℤ◌, unsigned_abs, arith, ap, sym}
use Rattle.std.proofs.Common.{subst, ◌∙◌}
use Rattle.std.proofs.lemmas.Bool.{cases_lt}
use Rattle.std.proofs.lemmas.Int.{ints, by_lt_z}
use Rattle.ngc_fixed_length.specs.Grid.{distance}
use Rattle.ngc_circle_walk.proofs.Rays.{square_le}
use Rattle.ngc_arc_geometry.specs.Shape.{ArcShape, end_of}
use Rattle.ngc_arc_geometry.specs.Radii.{IsArc}
use Rattle.ngc_arc_geometry.specs.ArcBand.{spread, IsWithin}
use Rattle.ngc_arc_geometry.specs.ArcOrder.{GoesOn}
use Rattle.ngc_arc_geometry.specs.ArcSides.{IsByAnEnd}
use Rattle.ngc_step_kernel.specs.declared.round.Vector2.{Vector2}
use Rattle.ngc_step_kernel.specs.declared.spot.Spot.{Spot}
use Rattle.ngc_step_kernel.specs.Line.{toward}
use Rattle.ngc_step_kernel.specs.PlaneCourse.{laid, IsByArc}
use Rattle.ngc_step_kernel.specs.Spots.{straight_at, straight_place}
use Rattle.ngc_step_kernel.specs.View.{view_of, IsNearestSpot}
use Rattle.ngc_step_kernel.proofs.CourseLemmas.{straight_starts}
use Rattle.ngc_step_kernel.proofs.LineLemmas.{toward-all}
use Rattle.ngc_step_kernel.proofs.PartsFollow.{by_end_more}
use Rattle.ngc_step_kernel.proofs.PlaneApart.{end_apart}
use Rattle.ngc_step_kernel.proofs.StraightAxis.{scaled_by}
use Rattle.ngc_step_kernel.proofs.StraightHull.{by_end_in_hull}
use Rattle.ngc_step_kernel.proofs.StraightParts.{by_end_in_band}

-- ---- along one axis: after the first move a point is the last one, or at least a step from both
-- ends

abbrev IsInside : ℕ → ℤ → ℤ → ℤ → Type 0
IsInside g p q r = (q ≡ r) ⊎ ((((p +ℤ pos g) ≤ℤ q) × ((q +ℤ pos g) ≤ℤ r)) ⊎ (((q +ℤ pos g) ≤ℤ p) × ((r +ℤ pos g) ≤ℤ q)))

inside_up : (g m n : ℕ) (x y z : ℤ) → y ≡ x +ℤ pos (suc m) → z ≡ y +ℤ pos (suc n) → IsInside g (x *ℤ pos g) (y *ℤ pos g) (z *ℤ pos g)
inside_up g m n x y z e f = let a = scaled_by g (suc m) x y e in let b = scaled_by g (suc n) y z f in inr (inl (omega (arith, ints, a), omega (arith, ints, b)))

inside_down : (g m n : ℕ) (x y z : ℤ) → x ≡ y +ℤ pos (suc m) → y ≡ z +ℤ pos (suc n) → IsInside g (x *ℤ pos g) (y *ℤ pos g) (z *ℤ pos g)
inside_down g m n x y z e f = let a = scaled_by g (suc m) y x e in let b = scaled_by g (suc n) z y f in
    inr (inr (omega (arith, ints, a), omega (arith, ints, b)))

after_first : (g : ℕ) (a b : ℤ) (k : ℕ) → IsInside g (a *ℤ pos g) (straight_place a b (suc k) *ℤ pos g) (b *ℤ pos g)
after_first g a b k =
    let d = distance a b in
    elim (cases_lt (suc k) d) [
      | inl more ↦ (
          let m = min (suc k) d in
          let here : m ≡ suc k = omega (arith, more) in
          let n = d - suc (suc k) in
          by_lt_z a b
          (λ up. let e : toward a b m ≡ a +ℤ pos m = grind (arith, ints) in
          inside_up g k n a (toward a b m) b (omega (arith, ints, e, here)) (omega (arith, ints, e, here, more, up)))
          (λ down. let e : toward a b m ≡ a -ℤ pos m = grind (arith, ints) in
          inside_down g k n a (toward a b m) b (omega (arith, ints, e, here)) (omega (arith, ints, e, here, more, down))))
      | inr all ↦ (
          let here : min (suc k) d ≡ d = omega (arith, all) in
          inl (ap (λ z. z *ℤ pos g) (ap (toward a b) here ∙ toward-all a b)))
    ]

inside_one : (g : ℕ) (p q r e : ℤ) → 2 * distance e p < 3 * g → 2 * unsigned_abs (e -ℤ r) ≤ g → IsInside g p q r → 2 * distance e q ≤ g
inside_one g p q r e hp hr (inl same) = omega (arith, ints, hr, same)
inside_one g p q r e hp hr (inr (inl w)) = absurd (omega (arith, ints, hp, hr, w.0, w.1))
inside_one g p q r e hp hr (inr (inr w)) = absurd (omega (arith, ints, hp, hr, w.0, w.1))

inside_two : (g : ℕ) (p q r e : ℤ) → 20 * distance e p < 37 * g → 2 * unsigned_abs (e -ℤ r) ≤ g → IsInside g p q r → 20 * distance e q ≤ 17 * g
inside_two g p q r e hp hr (inl same) = omega (arith, ints, hr, same)
inside_two g p q r e hp hr (inr (inl w)) = omega (arith, ints, hp, hr, w.0, w.1)
inside_two g p q r e hp hr (inr (inr w)) = omega (arith, ints, hp, hr, w.0, w.1)

-- ---- in the plane

-- less than 37/20 steps from the end of a vector from the centre on both axes, and less than 3/2 on
-- one of them
pub record IsShortOf (g : ℕ) (c w : Vector2) (p : Spot) : Type 0 where
  pub u : 20 * distance (c.u +ℤ w.u) (p.u *ℤ pos g) < 37 * g
  pub v : 20 * distance (c.v +ℤ w.v) (p.v *ℤ pos g) < 37 * g
  pub one : (2 * distance (c.u +ℤ w.u) (p.u *ℤ pos g) < 3 * g) ⊎ (2 * distance (c.v +ℤ w.v) (p.v *ℤ pos g) < 3 * g)

-- this holds for each point less than 3/2 steps from there on both axes
pub beside_short : (g : ℕ) (c w : Vector2) (p : Spot) → 2 * distance (c.u +ℤ w.u) (p.u *ℤ pos g) < 3 * g → 2 * distance (c.v +ℤ w.v) (p.v *ℤ pos g) < 3 * g →
    IsShortOf g c w p
beside_short g c w p hu hv = record { u = omega (arith, hu); v = omega (arith, hv); one = inl hu }

under_a_step : (x y g : ℕ) → 20 * x ≤ 17 * g → 2 * y ≤ g → x * x + y * y ≤ g * g
under_a_step x y g hx hy = let a = square_le (20 * x) (17 * g) hx in let b = square_le (2 * y) g hy in omega (arith, a, b)

-- after the first move from such a point l to the grid point e nearest to the end, each point is at
-- most a step from the end
pub short_within : (a : ArcShape) (g : ℕ) (l e : Spot) (k : ℕ) → IsNearestSpot g (view_of a).centre (view_of a).end e →
    IsShortOf g (view_of a).centre (view_of a).end l →
    IsWithin g (end_of a) (laid g a.turn (straight_at l e (suc k)))
short_within a g l e k near short =
    let c = (view_of a).centre in
    let w = (view_of a).end in
    let iu = after_first g l.u e.u k in
    let iv = after_first g l.v e.v k in
    let x = distance (c.u +ℤ w.u) (straight_place l.u e.u (suc k) *ℤ pos g) in
    let y = distance (c.v +ℤ w.v) (straight_place l.v e.v (suc k) *ℤ pos g) in
    let h : x * x + y * y ≤ g * g = elim short.one [
      | inl one ↦ omega (
        arith,
        under_a_step y x g
            (inside_two g (l.v *ℤ pos g) (straight_place l.v e.v (suc k) *ℤ pos g) (e.v *ℤ pos g) (c.v +ℤ w.v) short.v near.v iv)
            (inside_one g (l.u *ℤ pos g) (straight_place l.u e.u (suc k) *ℤ pos g) (e.u *ℤ pos g) (c.u +ℤ w.u) one near.u iu),
      )
      | inr one ↦ omega (
        arith,
        under_a_step x y g
            (inside_two g (l.u *ℤ pos g) (straight_place l.u e.u (suc k) *ℤ pos g) (e.u *ℤ pos g) (c.u +ℤ w.u) short.u near.u iu)
            (inside_one g (l.v *ℤ pos g) (straight_place l.v e.v (suc k) *ℤ pos g) (e.v *ℤ pos g) (c.v +ℤ w.v) one near.v iv),
      )
    ] in
    omega (arith, h, end_apart a g (straight_at l e (suc k)))

-- a point at most a step from an end is near the arc
pub by_end_by_arc : (a : ArcShape) (g w : ℕ) (p : Spot) → IsArc a → g ≤ w → IsByAnEnd a g (laid g a.turn p) → IsByArc a g w (laid g a.turn p)
by_end_by_arc a g w p arc wide by =
    let at = laid g a.turn p in
    record {
      band = by_end_in_band a w at arc (by_end_more a g w at wide by);
      sector = inr (by_end_more a g (w + spread a) at (omega (arith, wide)) by);
      box = by_end_in_hull a (2 * g + spread a) at (by_end_more a g (2 * g + spread a) at (omega arith) by);
    }

-- if l is near the arc, all points are
pub short_by_arc : (a : ArcShape) (g w : ℕ) (l e : Spot) (k : ℕ) → IsArc a → g ≤ w → IsNearestSpot g (view_of a).centre (view_of a).end e →
    IsShortOf g (view_of a).centre (view_of a).end l → IsByArc a g w (laid g a.turn l) →
    IsByArc a g w (laid g a.turn (straight_at l e k))
short_by_arc a g w l e zero arc wide near short first = subst (λ (p : Spot). IsByArc a g w (laid g a.turn p)) (sym (straight_starts l e)) first
short_by_arc a g w l e (suc k) arc wide near short first = by_end_by_arc a g w (straight_at l e (suc k)) arc wide (inr (short_within a g l e k near short))

-- and no move turns back away from the end
pub short_goes_on : (a : ArcShape) (g : ℕ) (l e : Spot) (k : ℕ) → IsNearestSpot g (view_of a).centre (view_of a).end e →
    IsShortOf g (view_of a).centre (view_of a).end l →
    GoesOn a (4 * g + spread a) (laid g a.turn (straight_at l e k)) (laid g a.turn (straight_at l e (k + 1)))
short_goes_on a g l e k near short =
    let same : suc k ≡ k + 1 = omega arith in
    let by : IsWithin g (end_of a) (laid g a.turn (straight_at l e (k + 1))) =
    subst (λ n. IsWithin g (end_of a) (laid g a.turn (straight_at l e n))) same (short_within a g l e k near short) in
    inr (inr (by_end_more a g (4 * g + spread a) (laid g a.turn (straight_at l e (k + 1))) (omega arith) (inr by)))

-- An arc whose lesser radius is below one and a half steps: its course goes straight from the grid point nearest to its start to that nearest to its end.
use Rattle.std.proofs.Common.{◌≡◌, ℕ, ◌+◌, ◌*◌, ◌<◌, ◌≤◌, inl, inr, min, max, ℤ, pos, ◌+ℤ◌, ◌-ℤ◌, ◌*ℤ◌, unsigned_abs, arith, ap, ◌∙◌, sym}
use Rattle.std.proofs.lemmas.Bool.{cases_lt}
use Rattle.std.proofs.lemmas.Int.{ints}
use borrow.Author.Differences.{neg_is}
use Rattle.ngc_fixed_length.specs.Grid.{distance}
use Rattle.ngc_fixed_length.specs.declared.modes.Turn.{Turn}
use Rattle.ngc_fixed_length.specs.declared.modes.Turn.TheVariants.{Counterclockwise, Clockwise}
use Rattle.ngc_fixed_length.specs.declared.points.Point2.{Point2}
use Rattle.ngc_circle_walk.proofs.Rays.{square_le}
use Rattle.ngc_arc_geometry.specs.Shape.{ArcShape, start_of, end_of}
use Rattle.ngc_arc_geometry.specs.Radii.{squared_distance, lo, hi, inner_radius, outer_radius, IsArc}
use Rattle.ngc_arc_geometry.specs.ArcBand.{spread, IsWithin}
use Rattle.ngc_arc_geometry.specs.ArcSides.{IsByAnEnd}
use Rattle.ngc_arc_geometry.proofs.Squares.{square_sum}
use Rattle.ngc_step_kernel.specs.declared.spot.Spot.{Spot}
use Rattle.ngc_step_kernel.specs.PlaneCourse.{laid}
use Rattle.ngc_step_kernel.specs.Round.{turned}
use Rattle.ngc_step_kernel.specs.Spots.{straight_at, straight_place}
use Rattle.ngc_step_kernel.specs.View.{squared, view_of, IsNearestSpot}
use Rattle.ngc_step_kernel.proofs.PlaneApart.{start_apart, end_apart, apart_back, plane_above, sides_above}
use Rattle.ngc_step_kernel.proofs.StraightAxis.{place_within}
use Rattle.ngc_step_kernel.proofs.StraightParts.{inner_root, outer_root, inner_below}
use Rattle.ngc_step_kernel.proofs.ViewLemmas.{squared_is}

abbrev pub IsTiny : ArcShape → ℕ → Type 0
IsTiny a g = 4 * lo a < 9 * (g * g)

-- the same in its view
pub tiny_seen : (a : ArcShape) (g : ℕ) → 4 * min (squared (view_of a).start) (squared (view_of a).end) < 9 * (g * g) → IsTiny a g
tiny_seen a g h = omega (arith, h, squared_is a.turn a.centre (start_of a), squared_is a.turn a.centre (end_of a))

-- ---- the distance between its ends

below_root : (n m : ℕ) → 4 * (n * n) < 9 * (m * m) → 2 * n < 3 * m
below_root n m h =
    elim (cases_lt (2 * n) (3 * m)) [
      | inl fine ↦ fine
      | inr more ↦ (let a = square_le (3 * m) (2 * n) more in absurd (omega (arith, a, h)))
    ]

pub record AreTinyRadii (a : ArcShape) (g : ℕ) : Type 0 where
  pub small : 2 * inner_radius a < 3 * g
  pub order : inner_radius a ≤ outer_radius a
  pub low : lo a ≤ (inner_radius a + 1) * (inner_radius a + 1)
  pub high : hi a ≤ outer_radius a * outer_radius a

pub tiny_radii : (a : ArcShape) (g : ℕ) → IsArc a → IsTiny a g → AreTinyRadii a g
tiny_radii a g arc tiny =
    let i = inner_root a arc in
    let o = outer_root a arc in
    record {
      small = below_root (inner_radius a) g (omega (arith, i.square, tiny));
      order = inner_below a arc;
      low = omega (arith, i.greatest);
      high = o.square;
    }

pub two_ends : (c p q : Point2) (m d : ℕ) → squared_distance c p ≤ m * m → squared_distance c q ≤ d * d → squared_distance p q ≤ (m + d) * (m + d)
two_ends c p q m d hp hq = plane_above p c q m d (omega (arith, hp, apart_back p c)) hq

-- start and end are at most three steps and the difference of the radii apart
pub tiny_ends : (a : ArcShape) (g : ℕ) → IsArc a → IsTiny a g → IsWithin (3 * g + spread a) (start_of a) (end_of a)
tiny_ends a g arc tiny =
    let r = tiny_radii a g arc tiny in
    let i = inner_radius a + 1 in
    let o = outer_radius a in
    let w = square_le (i + o) (3 * g + spread a) (omega (arith, r.small, r.order)) in
    let w' = square_le (o + i) (3 * g + spread a) (omega (arith, r.small, r.order)) in
    elim (cases_lt (squared_distance a.centre (start_of a)) (squared_distance a.centre (end_of a))) [
      | inl less ↦ (let h = two_ends a.centre (start_of a) (end_of a) i o (omega (arith, r.low, less)) (omega (arith, r.high, less)) in omega (arith, h, w))
      | inr more ↦ (let h = two_ends a.centre (start_of a) (end_of a) o i (omega (arith, r.high, more)) (omega (arith, r.low, more)) in omega (arith, h, w'))
    ]

-- ---- the part between the grid points p and e nearest to them

-- along one axis, from the point nearest to s to the one nearest to t
from_first : (g : ℕ) (a b s t : ℤ) (k : ℕ) → 2 * unsigned_abs (s -ℤ (a *ℤ pos g)) ≤ g → 2 * unsigned_abs (t -ℤ (b *ℤ pos g)) ≤ g →
    2 * distance s (straight_place a b k *ℤ pos g) ≤ 2 * distance s t + g
from_first g a b s t k hs ht =
    let m = max (distance s (a *ℤ pos g)) (distance s (b *ℤ pos g)) in
    let h = place_within g a b s k m (omega arith) (omega arith) in
    omega (arith, ints, h, hs, ht)

from_last : (g : ℕ) (a b s t : ℤ) (k : ℕ) → 2 * unsigned_abs (s -ℤ (a *ℤ pos g)) ≤ g → 2 * unsigned_abs (t -ℤ (b *ℤ pos g)) ≤ g →
    2 * distance t (straight_place a b k *ℤ pos g) ≤ 2 * distance s t + g
from_last g a b s t k hs ht =
    let m = max (distance t (a *ℤ pos g)) (distance t (b *ℤ pos g)) in
    let h = place_within g a b t k m (omega arith) (omega arith) in
    omega (arith, ints, h, hs, ht)

both_off : (g d bu bv yu yv : ℕ) → bu * bu + bv * bv ≤ d * d → 2 * yu ≤ 2 * bu + g → 2 * yv ≤ 2 * bv + g → yu * yu + yv * yv ≤ (d + g) * (d + g)
both_off g d bu bv yu yv h hu hv =
    let c = sides_above (2 * bu) (2 * bv) g g (2 * yu) (2 * yv) (2 * d) (2 * g) hu hv (omega (arith, h)) (omega arith) in
    omega (arith, c)

straight_gap : (c p q : ℤ) → distance (c +ℤ (p -ℤ c)) (c +ℤ (q -ℤ c)) ≡ unsigned_abs (q -ℤ p)
straight_gap c p q = omega (arith, ints)

turned_gap : (t : Turn) (c p q : ℤ) → distance (turned t c +ℤ turned t (p -ℤ c)) (turned t c +ℤ turned t (q -ℤ c)) ≡ unsigned_abs (q -ℤ p)
turned_gap Counterclockwise c p q = omega (arith, ints)
turned_gap Clockwise c p q = omega (arith, ints, neg_is c, neg_is (p -ℤ c), neg_is (q -ℤ c))

abbrev gap_u : ArcShape → ℕ
gap_u a = distance ((view_of a).centre.u +ℤ (view_of a).start.u) ((view_of a).centre.u +ℤ (view_of a).end.u)

abbrev gap_v : ArcShape → ℕ
gap_v a = distance ((view_of a).centre.v +ℤ (view_of a).start.v) ((view_of a).centre.v +ℤ (view_of a).end.v)

ends_gap : (a : ArcShape) → gap_u a * gap_u a + gap_v a * gap_v a ≡ squared_distance (start_of a) (end_of a)
ends_gap a =
    let s = start_of a in
    let e = end_of a in
    ap (λ n. n * n + gap_v a * gap_v a) (straight_gap a.centre.u s.u e.u)
    ∙ ap (λ n. unsigned_abs (e.u -ℤ s.u) * unsigned_abs (e.u -ℤ s.u) + n * n) (turned_gap a.turn a.centre.v s.v e.v)
    ∙ sym (square_sum (e.u -ℤ s.u) (e.v -ℤ s.v))

-- each point of it is within four steps and the difference of the radii of the start
pub tiny_by_start : (a : ArcShape) (g : ℕ) (p e : Spot) (k : ℕ) → IsArc a → IsTiny a g → IsNearestSpot g (view_of a).centre (view_of a).start p →
    IsNearestSpot g (view_of a).centre (view_of a).end e →
    IsWithin (4 * g + spread a) (start_of a) (laid g a.turn (straight_at p e k))
tiny_by_start a g p e k arc tiny first last =
    let c = (view_of a).centre in
    let s = (view_of a).start in
    let t = (view_of a).end in
    let u = from_first g p.u e.u (c.u +ℤ s.u) (c.u +ℤ t.u) k first.u last.u in
    let v = from_first g p.v e.v (c.v +ℤ s.v) (c.v +ℤ t.v) k first.v last.v in
    let h = both_off g (3 * g + spread a) (gap_u a) (gap_v a) (distance (c.u +ℤ s.u) (straight_place p.u e.u k *ℤ pos g))
    (distance (c.v +ℤ s.v) (straight_place p.v e.v k *ℤ pos g)) (omega (arith, ends_gap a, tiny_ends a g arc tiny)) u v in
    omega (arith, h, start_apart a g (straight_at p e k))

-- and of the end
pub tiny_by_end : (a : ArcShape) (g : ℕ) (p e : Spot) (k : ℕ) → IsArc a → IsTiny a g → IsNearestSpot g (view_of a).centre (view_of a).start p →
    IsNearestSpot g (view_of a).centre (view_of a).end e →
    IsWithin (4 * g + spread a) (end_of a) (laid g a.turn (straight_at p e k))
tiny_by_end a g p e k arc tiny first last =
    let c = (view_of a).centre in
    let s = (view_of a).start in
    let t = (view_of a).end in
    let u = from_last g p.u e.u (c.u +ℤ s.u) (c.u +ℤ t.u) k first.u last.u in
    let v = from_last g p.v e.v (c.v +ℤ s.v) (c.v +ℤ t.v) k first.v last.v in
    let h = both_off g (3 * g + spread a) (gap_u a) (gap_v a) (distance (c.u +ℤ t.u) (straight_place p.u e.u k *ℤ pos g))
    (distance (c.v +ℤ t.v) (straight_place p.v e.v k *ℤ pos g)) (omega (arith, ends_gap a, tiny_ends a g arc tiny)) u v in
    omega (arith, h, end_apart a g (straight_at p e k))

pub tiny_by_an_end : (a : ArcShape) (g : ℕ) (p e : Spot) (k : ℕ) → IsArc a → IsTiny a g → IsNearestSpot g (view_of a).centre (view_of a).start p →
    IsNearestSpot g (view_of a).centre (view_of a).end e →
    IsByAnEnd a (4 * g + spread a) (laid g a.turn (straight_at p e k))
tiny_by_an_end a g p e k arc tiny first last = inl (tiny_by_start a g p e k arc tiny first last)

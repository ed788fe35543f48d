-- The course of an arc whose lesser radius is below one and a half steps: it is in the arc's band,
-- and passes near every point at the outer radius.
use Rattle.std.proofs.Common.{◌≡◌, ℕ, ◌+◌, ◌-◌, ◌*◌, ◌<◌, ◌≤◌, inl, inr, max, ℤ, pos, ◌+ℤ◌, ◌-ℤ◌, ◌*ℤ◌, unsigned_abs, arith, ap, subst, sym}
use Rattle.std.proofs.lemmas.Bool.{cases_lt}
use Rattle.std.proofs.lemmas.Bool.Decides.{nat_tests}
use Rattle.std.proofs.lemmas.Int.{ints}
use Rattle.ngc_fixed_length.specs.Grid.{distance}
use Rattle.ngc_fixed_length.specs.declared.points.Point2.{Point2}
use Rattle.ngc_circle_walk.proofs.Rays.{square_le}
use Rattle.ngc_arc_geometry.specs.Shape.{ArcShape, start_of, end_of}
use Rattle.ngc_arc_geometry.specs.Radii.{squared_distance, inner_radius, outer_radius, IsArc}
use Rattle.ngc_arc_geometry.specs.ArcBand.{leeway, spread, IsWithin, IsInBand}
use Rattle.ngc_step_kernel.specs.declared.round.Vector2.{Vector2}
use Rattle.ngc_step_kernel.specs.declared.spot.Spot.{Spot}
use Rattle.ngc_step_kernel.specs.PlaneCourse.{laid}
use Rattle.ngc_step_kernel.specs.Spots.{straight_at, straight_place, straight_moves}
use Rattle.ngc_step_kernel.specs.View.{squared, view_of, way_from, IsNearestSpot}
use Rattle.ngc_step_kernel.proofs.CourseLemmas.{straight_starts, straight_ends}
use Rattle.ngc_step_kernel.proofs.PlaneApart.{apart_squared, start_apart, end_apart, centre_apart, apart_back, plane_above}
use Rattle.ngc_step_kernel.proofs.StraightAxis.{place_within}
use Rattle.ngc_step_kernel.proofs.TinyArcs.{IsTiny, tiny_radii, two_ends}

-- ---- the grid points nearest to the ends

half_squares : (x y g : ℕ) → 2 * x ≤ g → 2 * y ≤ g → x * x + y * y ≤ g * g
half_squares x y g hx hy = let a = square_le (2 * x) g hx in let b = square_le (2 * y) g hy in omega (arith, a, b)

nearest_apart : (g : ℕ) (c w : Vector2) (p : Spot) → IsNearestSpot g c w p → apart_squared g c w p ≤ g * g
nearest_apart g c w p near =
    let u : 2 * distance (c.u +ℤ w.u) (p.u *ℤ pos g) ≤ g = omega (arith, ints, near.u) in
    let v : 2 * distance (c.v +ℤ w.v) (p.v *ℤ pos g) ≤ g = omega (arith, ints, near.v) in
    half_squares (distance (c.u +ℤ w.u) (p.u *ℤ pos g)) (distance (c.v +ℤ w.v) (p.v *ℤ pos g)) g u v

-- they are less than a step from the ends
pub start_spot_near : (a : ArcShape) (g : ℕ) (p : Spot) → IsNearestSpot g (view_of a).centre (view_of a).start p → IsWithin g (start_of a) (laid g a.turn p)
start_spot_near a g p near = let h = nearest_apart g (view_of a).centre (view_of a).start p near in omega (arith, h, start_apart a g p)

pub end_spot_near : (a : ArcShape) (g : ℕ) (p : Spot) → IsNearestSpot g (view_of a).centre (view_of a).end p → IsWithin g (end_of a) (laid g a.turn p)
end_spot_near a g p near = let h = nearest_apart g (view_of a).centre (view_of a).end p near in omega (arith, h, end_apart a g p)

-- ---- the points at the outer radius

three_ways : (c p q x : Point2) (g i o : ℕ) → squared_distance p q ≤ g * g → squared_distance c p ≤ i * i → squared_distance c x ≤ o * o →
    squared_distance q x ≤ (g + (i + o)) * (g + (i + o))
three_ways c p q x g i o hq hp hx = plane_above q p x g (i + o) (omega (arith, hq, apart_back q p)) (two_ends c p x i o hp hx)

-- some point of the course is within five steps and the difference of the radii of each point that
-- is no farther out than the outer radius
pub tiny_place : (a : ArcShape) (g : ℕ) (p e : Spot) → IsArc a → IsTiny a g → IsNearestSpot g (view_of a).centre (view_of a).start p →
    IsNearestSpot g (view_of a).centre (view_of a).end e →
    (k : ℕ) × (k ≤ straight_moves p e) ×
    ((x : Point2) → squared_distance a.centre x ≤ outer_radius a * outer_radius a → IsWithin (5 * g + spread a) (laid g a.turn (straight_at p e k)) x)
tiny_place a g p e arc tiny first last =
    let r = tiny_radii a g arc tiny in
    let i = inner_radius a + 1 in
    let o = outer_radius a in
    let d = 5 * g + spread a in
    let w = square_le (g + (i + o)) d (omega (arith, r.small, r.order)) in
    elim (cases_lt (squared_distance a.centre (start_of a)) (squared_distance a.centre (end_of a))) [
      | inl less ↦ (
        0,
        omega arith,
        λ x out. (
            let h = three_ways a.centre (start_of a) (laid g a.turn p) x g i o (start_spot_near a g p first) (omega (arith, r.low, less)) out in
            subst (λ (s : Spot). IsWithin d (laid g a.turn s) x) (sym (straight_starts p e)) (omega (arith, h, w))),
      )
      | inr more ↦ (
        straight_moves p e,
        omega arith,
        λ x out. (
            let h = three_ways a.centre (end_of a) (laid g a.turn e) x g i o (end_spot_near a g e last) (omega (arith, r.low, more)) out in
            subst (λ (s : Spot). IsWithin d (laid g a.turn s) x) (sym (straight_ends p e (straight_moves p e) (omega arith))) (omega (arith, h, w))),
      )
    ]

-- ---- the band

one_of_two : (x m n : ℕ) → x ≤ max m n → x * x ≤ m * m + n * n
one_of_two x m n h =
    elim (cases_lt m n) [
      | inl less ↦ (let a = square_le x n (omega (arith, h, less)) in omega (arith, a))
      | inr more ↦ (let a = square_le x m (omega (arith, h, more)) in omega (arith, a))
    ]

axis_between : (g : ℕ) (a b c : ℤ) (k : ℕ) → unsigned_abs ((straight_place a b k *ℤ pos g) -ℤ c)
    ≤ max (unsigned_abs ((a *ℤ pos g) -ℤ c)) (unsigned_abs ((b *ℤ pos g) -ℤ c))
axis_between g a b c k = place_within g a b c k (max (unsigned_abs ((a *ℤ pos g) -ℤ c)) (unsigned_abs ((b *ℤ pos g) -ℤ c))) (omega arith) (omega arith)

-- the square of each point's distance is at most the sum of those of the first and the last point
pub straight_square : (g : ℕ) (c : Vector2) (p e : Spot) (k : ℕ) → squared (way_from g c (straight_at p e k)) ≤ squared (way_from g c p) + squared (way_from g c e)
straight_square g c p e k =
    let u = one_of_two (unsigned_abs (way_from g c (straight_at p e k)).u) (unsigned_abs (way_from g c p).u) (unsigned_abs (way_from g c e).u)
    (axis_between g p.u e.u c.u k) in
    let v = one_of_two (unsigned_abs (way_from g c (straight_at p e k)).v) (unsigned_abs (way_from g c p).v) (unsigned_abs (way_from g c e).v)
    (axis_between g p.v e.v c.v k) in
    omega (arith, u, v)

both_out : (i o g : ℕ) → 500 ≤ g → 2 * i ≤ 3 * g + 1 → (i + g) * (i + g) + (o + g) * (o + g) ≤ (o + 4 * g) * (o + 4 * g)
both_out i o g step small =
    let a = square_le (2 * (i + g)) (6 * g) (omega (arith, step, small)) in
    omega (arith, a)

-- each point is in the band of four steps
pub tiny_in_band : (a : ArcShape) (g : ℕ) (p e : Spot) (k : ℕ) → IsArc a → 500 ≤ g → IsTiny a g → IsNearestSpot g (view_of a).centre (view_of a).start p →
    IsNearestSpot g (view_of a).centre (view_of a).end e →
    IsInBand a (4 * g) (laid g a.turn (straight_at p e k))
tiny_in_band a g p e k arc step tiny first last =
    let r = tiny_radii a g arc tiny in
    let i = inner_radius a + 1 in
    let o = outer_radius a in
    let both = both_out i o g step (omega (arith, r.small)) in
    let sum = straight_square g (view_of a).centre p e k in
    let none : inner_radius a - 4 * g ≡ 0 = omega (arith, r.small) in
    let zeros : (inner_radius a - 4 * g) * (inner_radius a - 4 * g) ≡ 0 = ap (λ t. t * t) none in
    let s = start_spot_near a g p first in
    let t = end_spot_near a g e last in
    record {
      inner = omega (arith, zeros);
      outer = elim (cases_lt (squared_distance a.centre (start_of a)) (squared_distance a.centre (end_of a))) [
        | inl less ↦ (
            let m = plane_above a.centre (start_of a) (laid g a.turn p) i g (omega (arith, r.low, less)) s in
            let n = plane_above a.centre (end_of a) (laid g a.turn e) o g (omega (arith, r.high, less)) t in
            omega (arith, m, n, both, sum, centre_apart a g p, centre_apart a g e, centre_apart a g (straight_at p e k)))
        | inr more ↦ (
            let m = plane_above a.centre (start_of a) (laid g a.turn p) o g (omega (arith, r.high, more)) s in
            let n = plane_above a.centre (end_of a) (laid g a.turn e) i g (omega (arith, r.low, more)) t in
            omega (arith, m, n, both, sum, centre_apart a g p, centre_apart a g e, centre_apart a g (straight_at p e k)))
      ];
    }

-- which is the band of such an arc's course
pub small_leeway : (a : ArcShape) (g : ℕ) → inner_radius a < 8 * g → leeway (pos g) a ≡ 4 * g
small_leeway a g small = grind (arith, ints, nat_tests)

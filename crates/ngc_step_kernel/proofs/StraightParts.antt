-- The last straight part of an arc's course stays near the arc's end, and near its circles.
use Rattle.std.proofs.Common.{ℕ, ◌+◌, ◌*◌, ◌≤◌, inl, inr, ◌+ℤ◌, arith}
use Rattle.ngc_fixed_length.specs.Roots.{IsRootFloor, IsRootCeil}
use Rattle.ngc_fixed_length.specs.declared.points.Point2.{Point2}
use Rattle.ngc_fixed_length.proofs.RootLaws.{whole_root-greatest, whole_root_above-least}
use Rattle.ngc_circle_walk.proofs.Rays.{square_le, from_squares}
use Rattle.ngc_arc_geometry.specs.Shape.{ArcShape, start_of, end_of}
use Rattle.ngc_arc_geometry.specs.Radii.{squared_distance, lo, hi, inner_radius, outer_radius, IsArc}
use Rattle.ngc_arc_geometry.specs.ArcBand.{spread, IsWithin, IsInBand}
use Rattle.ngc_arc_geometry.specs.ArcSides.{IsByAnEnd}
use Rattle.ngc_step_kernel.specs.declared.round.Vector2.{Vector2}
use Rattle.ngc_step_kernel.specs.declared.spot.Spot.{Spot}
use Rattle.ngc_step_kernel.specs.PlaneCourse.{laid}
use Rattle.ngc_step_kernel.specs.Spots.{straight_at}
use Rattle.ngc_step_kernel.specs.View.{squared, view_of, IsNearestSpot}
use Rattle.ngc_step_kernel.proofs.PlaneApart.{apart_squared, end_apart, plane_above, plane_below}
use Rattle.ngc_step_kernel.proofs.StraightAxis.{place_no_farther}
use Rattle.ngc_step_kernel.proofs.ViewLemmas.{squared_is}

-- ---- radii

pub inner_root : (a : ArcShape) → IsArc a → IsRootFloor (lo a) (inner_radius a)
inner_root a arc = whole_root-greatest (lo a) (omega (arith, arc.radius))

pub outer_root : (a : ArcShape) → IsArc a → IsRootCeil (hi a) (outer_radius a)
outer_root a arc = whole_root_above-least (hi a) (omega (arith, arc.radius))

pub inner_below : (a : ArcShape) → IsArc a → inner_radius a ≤ outer_radius a
inner_below a arc =
    let i = (inner_root a arc).square in
    let o = (outer_root a arc).square in
    from_squares (inner_radius a) (outer_radius a) (omega (arith, i, o))

root_within : (n i o s : ℕ) → i * i ≤ n → n ≤ o * o → IsRootCeil n s → (i ≤ s) × (s ≤ o)
root_within n i o s hi ho root = (from_squares i s (omega (arith, hi, root.square)), root.least o ho)

-- the radius of the start, rounded up, is between the arc's two, and so is that of the end
pub start_between : (a : ArcShape) (s : ℕ) → IsArc a → IsRootCeil (squared (view_of a).start) s → (inner_radius a ≤ s) × (s ≤ outer_radius a)
start_between a s arc root =
    let e = squared_is a.turn a.centre (start_of a) in
    let i = (inner_root a arc).square in
    let o = (outer_root a arc).square in
    root_within (squared (view_of a).start) (inner_radius a) (outer_radius a) s (omega (arith, e, i)) (omega (arith, e, o)) root

pub end_between : (a : ArcShape) (r : ℕ) → IsArc a → IsRootCeil (squared (view_of a).end) r → (inner_radius a ≤ r) × (r ≤ outer_radius a)
end_between a r arc root =
    let e = squared_is a.turn a.centre (end_of a) in
    let i = (inner_root a arc).square in
    let o = (outer_root a arc).square in
    root_within (squared (view_of a).end) (inner_radius a) (outer_radius a) r (omega (arith, e, i)) (omega (arith, e, o)) root

-- ---- a point near an end is near the circles

near_circles : (a : ArcShape) (q p : Point2) (d : ℕ) → IsArc a → lo a ≤ squared_distance a.centre q → squared_distance a.centre q ≤ hi a → IsWithin d q p →
    IsInBand a d p
near_circles a q p d arc low high near =
    let i = (inner_root a arc).square in
    let o = (outer_root a arc).square in
    record {
      inner = plane_below a.centre q p (inner_radius a) d (omega (arith, i, low)) near;
      outer = plane_above a.centre q p (outer_radius a) d (omega (arith, o, high)) near;
    }

-- a point at most d from an end is in the band of width d
pub by_end_in_band : (a : ArcShape) (d : ℕ) (p : Point2) → IsArc a → IsByAnEnd a d p → IsInBand a d p
by_end_in_band a d p arc (inl near) = near_circles a (start_of a) p d arc (omega arith) (omega arith) near
by_end_in_band a d p arc (inr near) = near_circles a (end_of a) p d arc (omega arith) (omega arith) near

pub within_more : (d m : ℕ) (p q : Point2) → d ≤ m → IsWithin d p q → IsWithin m p q
within_more d m p q le h = let a = square_le d m le in omega (arith, a, h)

-- ---- the last part, from l to the grid point e nearest to the end

straight_no_farther : (g : ℕ) (c w : Vector2) (l e : Spot) (k : ℕ) → IsNearestSpot g c w e → apart_squared g c w (straight_at l e k) ≤ apart_squared g c w l
straight_no_farther g c w l e k near =
    let u = square_le _ _ (place_no_farther g l.u e.u (c.u +ℤ w.u) k near.u) in
    let v = square_le _ _ (place_no_farther g l.v e.v (c.v +ℤ w.v) k near.v) in
    omega (arith, u, v)

-- no point of it is farther from the end than its first one
pub last_no_farther : (a : ArcShape) (g : ℕ) (l e : Spot) (k : ℕ) → IsNearestSpot g (view_of a).centre (view_of a).end e →
    squared_distance (end_of a) (laid g a.turn (straight_at l e k)) ≤ squared_distance (end_of a) (laid g a.turn l)
last_no_farther a g l e k near =
    let h = straight_no_farther g (view_of a).centre (view_of a).end l e k near in
    omega (arith, h, end_apart a g l, end_apart a g (straight_at l e k))

-- so it is within d of the end if its first one is
pub last_within : (a : ArcShape) (g d : ℕ) (l e : Spot) (k : ℕ) → IsNearestSpot g (view_of a).centre (view_of a).end e →
    IsWithin d (end_of a) (laid g a.turn l) →
    IsWithin d (end_of a) (laid g a.turn (straight_at l e k))
last_within a g d l e k near first = let h = last_no_farther a g l e k near in omega (arith, h, first)

-- if the square of the first one's distance is at most 15*g*g, each point is within four steps of
-- the end, and so near it and in the band
pub last_near : (a : ArcShape) (g : ℕ) (l e : Spot) (k : ℕ) → IsNearestSpot g (view_of a).centre (view_of a).end e →
    squared_distance (end_of a) (laid g a.turn l) ≤ 15 * (g * g) →
    IsWithin (4 * g) (end_of a) (laid g a.turn (straight_at l e k))
last_near a g l e k near first = last_within a g (4 * g) l e k near (omega (arith, first))

pub last_by_end : (a : ArcShape) (g : ℕ) (l e : Spot) (k : ℕ) → IsNearestSpot g (view_of a).centre (view_of a).end e →
    squared_distance (end_of a) (laid g a.turn l) ≤ 15 * (g * g) →
    IsByAnEnd a (4 * g + spread a) (laid g a.turn (straight_at l e k))
last_by_end a g l e k near first =
    inr (within_more (4 * g) (4 * g + spread a) (end_of a) (laid g a.turn (straight_at l e k)) (omega arith) (last_near a g l e k near first))

pub last_in_band : (a : ArcShape) (g : ℕ) (l e : Spot) (k : ℕ) → IsArc a → IsNearestSpot g (view_of a).centre (view_of a).end e →
    squared_distance (end_of a) (laid g a.turn l) ≤ 15 * (g * g) →
    IsInBand a (4 * g) (laid g a.turn (straight_at l e k))
last_in_band a g l e k arc near first = by_end_in_band a (4 * g) (laid g a.turn (straight_at l e k)) arc (inr (last_near a g l e k near first))

-- The straight parts of an arc's course are in the box round the arc's ends and quadrant points, to
-- within a margin.
use Rattle.std.proofs.Common.{ℕ, ◌≤◌, inl, inr, ℤ, pos, ◌+ℤ◌, ◌-ℤ◌, ◌*ℤ◌, ◌≤ℤ◌, neg_ℤ, unsigned_abs, arith}
use Rattle.std.proofs.lemmas.Int.{ints}
use borrow.Author.Differences.{neg_is}
use Rattle.ngc_fixed_length.specs.declared.modes.Turn.{Turn}
use Rattle.ngc_fixed_length.specs.declared.modes.Turn.TheVariants.{Counterclockwise, Clockwise}
use Rattle.ngc_fixed_length.specs.declared.points.Point2.{Point2}
use Rattle.ngc_arc_geometry.specs.Shape.{ArcShape, start_of, end_of}
use Rattle.ngc_arc_geometry.specs.ArcBand.{IsWithin}
use Rattle.ngc_arc_geometry.specs.ArcSides.{IsByAnEnd}
use Rattle.ngc_arc_geometry.specs.Swept.{least, greatest, other_points}
use Rattle.ngc_arc_geometry.proofs.Squares.{first_within, second_within}
use Rattle.ngc_circle_laws.specs.Hull.{first_of, second_of, IsNearHull}
use Rattle.ngc_circle_laws.proofs.ArcBoxes.{IsInHull, start_held, end_held}
use Rattle.ngc_step_kernel.specs.declared.spot.Spot.{Spot}
use Rattle.ngc_step_kernel.specs.PlaneCourse.{laid}
use Rattle.ngc_step_kernel.specs.Round.{turned}
use Rattle.ngc_step_kernel.specs.Spots.{straight_at, straight_place}
use Rattle.ngc_step_kernel.proofs.StraightAxis.{IsOnWay, on_way}

below_by : (l q p : ℤ) (m : ℕ) → l ≤ℤ q → unsigned_abs (p -ℤ q) ≤ m → (l -ℤ pos m) ≤ℤ p
below_by l q p m low near = omega (arith, ints, low, near)

above_by : (h q p : ℤ) (m : ℕ) → q ≤ℤ h → unsigned_abs (p -ℤ q) ≤ m → p ≤ℤ (h +ℤ pos m)
above_by h q p m high near = omega (arith, ints, high, near)

near_held : (a : ArcShape) (m : ℕ) (q p : Point2) → IsInHull a q → IsWithin m q p → IsNearHull a m p
near_held a m q p held near =
    let u = first_within (p.u -ℤ q.u) (p.v -ℤ q.v) m near in
    let v = second_within (p.u -ℤ q.u) (p.v -ℤ q.v) m near in
    record {
      low_u = below_by (least first_of (start_of a) (other_points a)) q.u p.u m (held.low first_of) u;
      high_u = above_by (greatest first_of (start_of a) (other_points a)) q.u p.u m (held.high first_of) u;
      low_v = below_by (least second_of (start_of a) (other_points a)) q.v p.v m (held.low second_of) v;
      high_v = above_by (greatest second_of (start_of a) (other_points a)) q.v p.v m (held.high second_of) v;
    }

-- a point at most m from an end is in the box, to within m
pub by_end_in_hull : (a : ArcShape) (m : ℕ) (p : Point2) → IsByAnEnd a m p → IsNearHull a m p
by_end_in_hull a m p (inl near) = near_held a m (start_of a) p (start_held a) near
by_end_in_hull a m p (inr near) = near_held a m (end_of a) p (end_held a) near

-- ---- a straight part whose ends are in the box, to within a margin

way_low : (g : ℕ) (p q r l : ℤ) → IsOnWay g p q r → l ≤ℤ p → l ≤ℤ r → l ≤ℤ q
way_low g p q r l (inl (inl e, w)) hp hr = omega (arith, ints, e, hp)
way_low g p q r l (inl (inr e, w)) hp hr = omega (arith, ints, e, hp)
way_low g p q r l (inr w) hp hr = omega (arith, ints, w.1, hr)

way_high : (g : ℕ) (p q r h : ℤ) → IsOnWay g p q r → p ≤ℤ h → r ≤ℤ h → q ≤ℤ h
way_high g p q r h (inl w) hp hr = omega (arith, ints, w.1, hr)
way_high g p q r h (inr (inl e, w)) hp hr = omega (arith, ints, e, hp)
way_high g p q r h (inr (inr e, w)) hp hr = omega (arith, ints, e, hp)

turned_low : (t : Turn) (g : ℕ) (p q r l : ℤ) → IsOnWay g p q r → l ≤ℤ turned t p → l ≤ℤ turned t r → l ≤ℤ turned t q
turned_low Counterclockwise g p q r l w hp hr = way_low g p q r l w hp hr
turned_low Clockwise g p q r l w hp hr =
    let e = neg_is l in
    let h = way_high g p q r (neg_ℤ l) w (omega (arith, ints, e, neg_is p, hp)) (omega (arith, ints, e, neg_is r, hr)) in
    omega (arith, ints, e, neg_is q, h)

turned_high : (t : Turn) (g : ℕ) (p q r h : ℤ) → IsOnWay g p q r → turned t p ≤ℤ h → turned t r ≤ℤ h → turned t q ≤ℤ h
turned_high Counterclockwise g p q r h w hp hr = way_high g p q r h w hp hr
turned_high Clockwise g p q r h w hp hr =
    let e = neg_is h in
    let l = way_low g p q r (neg_ℤ h) w (omega (arith, ints, e, neg_is p, hp)) (omega (arith, ints, e, neg_is r, hr)) in
    omega (arith, ints, e, neg_is q, l)

-- all of it is in the box, to within that margin
pub straight_in_hull : (a : ArcShape) (g m : ℕ) (p q : Spot) (k : ℕ) → IsNearHull a m (laid g a.turn p) → IsNearHull a m (laid g a.turn q) →
    IsNearHull a m (laid g a.turn (straight_at p q k))
straight_in_hull a g m p q k hp hq =
    let u = on_way g p.u q.u k in
    let v = on_way g p.v q.v k in
    record {
      low_u = way_low g (p.u *ℤ pos g) (straight_place p.u q.u k *ℤ pos g) (q.u *ℤ pos g)
          (least first_of (start_of a) (other_points a) -ℤ pos m) u hp.low_u hq.low_u;
      high_u = way_high g (p.u *ℤ pos g) (straight_place p.u q.u k *ℤ pos g) (q.u *ℤ pos g)
          (greatest first_of (start_of a) (other_points a) +ℤ pos m) u hp.high_u hq.high_u;
      low_v = turned_low a.turn g (p.v *ℤ pos g) (straight_place p.v q.v k *ℤ pos g) (q.v *ℤ pos g)
          (least second_of (start_of a) (other_points a) -ℤ pos m) v hp.low_v hq.low_v;
      high_v = turned_high a.turn g (p.v *ℤ pos g) (straight_place p.v q.v k *ℤ pos g) (q.v *ℤ pos g)
          (greatest second_of (start_of a) (other_points a) +ℤ pos m) v hp.high_v hq.high_v;
    }

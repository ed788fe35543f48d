-- The straight parts of an arc's course follow the arc; a tiny arc's whole course does.
use Rattle.std.proofs.Common.{◌≡◌, ℕ, ◌+◌, ◌*◌, ◌≤◌, inl, inr, max, ℤ, pos, ◌+ℤ◌, ◌-ℤ◌, ◌*ℤ◌, unsigned_abs, arith, refl, ap, sym, subst, ◌∙◌}
use Rattle.std.proofs.lemmas.Bool.{cases_lt}
use Rattle.std.proofs.lemmas.Int.{ints, unsigned_abs-mul}
use borrow.Author.Differences.{neg_is}
use Rattle.ngc_fixed_length.specs.Grid.{distance}
use Rattle.ngc_fixed_length.specs.declared.modes.Turn.{Turn}
use Rattle.ngc_fixed_length.specs.declared.modes.Turn.TheVariants.{Counterclockwise, Clockwise}
use Rattle.ngc_fixed_length.specs.declared.points.Point2.{Point2}
use Rattle.ngc_arc_geometry.specs.Shape.{ArcShape, start_of, end_of}
use Rattle.ngc_arc_geometry.specs.Radii.{squared_distance, inner_radius, outer_radius, IsArc}
use Rattle.ngc_arc_geometry.specs.Sector.{extremes}
use Rattle.ngc_arc_geometry.specs.ArcBand.{leeway, spread, IsWithin}
use Rattle.ngc_arc_geometry.specs.ArcSides.{IsByAnEnd}
use Rattle.ngc_arc_geometry.specs.ArcOrder.{GoesOn, Passes}
use Rattle.ngc_arc_geometry.proofs.Squares.{first_within, second_within}
use Rattle.ngc_circle_laws.specs.Hull.{IsNearHull}
use Rattle.ngc_step_kernel.specs.declared.spot.Spot.{Spot}
use Rattle.ngc_step_kernel.specs.PlaneCourse.{laid, IsByArc, FollowsInPlane}
use Rattle.ngc_step_kernel.specs.Round.{turned}
use Rattle.ngc_step_kernel.specs.Spots.{straight_at, straight_moves}
use Rattle.ngc_step_kernel.specs.View.{view_of, IsNearestSpot}
use Rattle.ngc_step_kernel.proofs.CourseLemmas.{straight_ends}
use Rattle.ngc_step_kernel.proofs.FirstPoints.{IsFirstPart, start_within, first_by_end, first_in_band}
use Rattle.ngc_step_kernel.proofs.LineLemmas.{scale-sum}
use Rattle.ngc_step_kernel.proofs.OuterPoints.{tiny_passes}
use Rattle.ngc_step_kernel.proofs.PlaneApart.{apart_back, plane_above}
use Rattle.ngc_step_kernel.proofs.StraightHull.{by_end_in_hull, straight_in_hull}
use Rattle.ngc_step_kernel.proofs.StraightParts.{within_more, last_by_end, last_in_band}
use Rattle.ngc_step_kernel.proofs.TinyArcs.{IsTiny, tiny_radii, tiny_by_an_end, tiny_by_start}
use Rattle.ngc_step_kernel.proofs.TinyPoints.{start_spot_near, end_spot_near, tiny_in_band, small_leeway}

pub by_end_more : (a : ArcShape) (d m : ℕ) (p : Point2) → d ≤ m → IsByAnEnd a d p → IsByAnEnd a m p
by_end_more a d m p le (inl near) = inl (within_more d m (start_of a) p le near)
by_end_more a d m p le (inr near) = inr (within_more d m (end_of a) p le near)

-- ---- the number of moves of a straight part

gap_scaled : (g : ℕ) (a b : ℤ) → distance a b * g ≡ unsigned_abs ((b *ℤ pos g) -ℤ (a *ℤ pos g))
gap_scaled g a b =
    let d = b -ℤ a in
    let whole : d +ℤ a ≡ b = omega (arith, ints) in
    let e : b *ℤ pos g ≡ (d *ℤ pos g) +ℤ (a *ℤ pos g) = sym (ap (λ z. z *ℤ pos g) whole) ∙ scale-sum g d a in
    omega (arith, ints, e, unsigned_abs-mul d (pos g))

turned_gap : (t : Turn) (x y : ℤ) → unsigned_abs (turned t y -ℤ turned t x) ≡ unsigned_abs (y -ℤ x)
turned_gap Counterclockwise x y = refl
turned_gap Clockwise x y = omega (arith, ints, neg_is x, neg_is y)

longer_way : (a b g d : ℕ) → a * g ≤ d → b * g ≤ d → max a b * g ≤ d
longer_way a b g d ha hb =
    elim (cases_lt a b) [
      | inl less ↦ (let e : max a b ≡ b = omega (arith, less) in rw e hb)
      | inr more ↦ (let e : max a b ≡ a = omega (arith, more) in rw e ha)
    ]

-- between points at most d apart, at most d/g
pub moves_within : (g d : ℕ) (t : Turn) (p q : Spot) → IsWithin d (laid g t p) (laid g t q) → straight_moves p q * g ≤ d
moves_within g d t p q near =
    let u = first_within ((q.u *ℤ pos g) -ℤ (p.u *ℤ pos g)) (turned t (q.v *ℤ pos g) -ℤ turned t (p.v *ℤ pos g)) d near in
    let v = second_within ((q.u *ℤ pos g) -ℤ (p.u *ℤ pos g)) (turned t (q.v *ℤ pos g) -ℤ turned t (p.v *ℤ pos g)) d near in
    longer_way (distance p.u q.u) (distance p.v q.v) g d (omega (arith, gap_scaled g p.u q.u, u))
    (omega (arith, gap_scaled g p.v q.v, turned_gap t (p.v *ℤ pos g) (q.v *ℤ pos g), v))

-- ---- the first part

pub first_by_arc : (a : ArcShape) (g s r d w : ℕ) (p j : Spot) (k : ℕ) → IsFirstPart a g s r (inner_radius a) (outer_radius a + d) (spread a + d) p j → d ≤ g →
    g + d ≤ w → IsByArc a g w (laid g a.turn (straight_at p j k))
first_by_arc a g s r d w p j k f less wide =
    let at = laid g a.turn (straight_at p j k) in
    let by = first_by_end a g s r d p j k f in
    record {
      band = first_in_band a g s r d w p j k f wide;
      sector = inr (by_end_more a (g + spread a + d) (w + spread a) at (omega (arith, wide)) by);
      box = by_end_in_hull a (2 * g + spread a) at (by_end_more a (g + spread a + d) (2 * g + spread a) at (omega (arith, less)) by);
    }

-- no move from one of its points turns back, because the point is near the start
pub first_goes_on : (a : ArcShape) (g s r d : ℕ) (p j : Spot) (k : ℕ) (q : Point2) →
    IsFirstPart a g s r (inner_radius a) (outer_radius a + d) (spread a + d) p j → d ≤ g → GoesOn a (4 * g + spread a) (laid g a.turn (straight_at p j k)) q
first_goes_on a g s r d p j k q f less =
    inr (inl (by_end_more a (g + spread a + d) (4 * g + spread a) (laid g a.turn (straight_at p j k)) (omega (arith, less)) (first_by_end a g s r d p j k f)))

-- its moves cover at most two steps, the difference of the radii and d
pub first_short : (a : ArcShape) (g s r d : ℕ) (p j : Spot) → IsFirstPart a g s r (inner_radius a) (outer_radius a + d) (spread a + d) p j →
    straight_moves p j * g ≤ 2 * g + spread a + d
first_short a g s r d p j f =
    let n = straight_moves p j in
    let h = spread a + d in
    let x = laid g a.turn p in
    let y = laid g a.turn j in
    let far : IsWithin (h + g) (start_of a) y = subst (λ (q : Spot). IsWithin (h + g) (start_of a) (laid g a.turn q)) (straight_ends p j n (omega arith))
    (start_within a g s r (inner_radius a) (outer_radius a + d) h p j n f) in
    let all = plane_above x (start_of a) y g (h + g) (omega (arith, apart_back x (start_of a), start_spot_near a g p f.nearest)) far in
    let m = moves_within g (g + (h + g)) a.turn p j all in
    omega (arith, m)

-- ---- the last part

-- the grid point nearest to the end is in the box
pub end_spot_in_hull : (a : ArcShape) (g : ℕ) (e : Spot) → IsNearestSpot g (view_of a).centre (view_of a).end e →
    IsNearHull a (2 * g + spread a) (laid g a.turn e)
end_spot_in_hull a g e near = by_end_in_hull a (2 * g + spread a) (laid g a.turn e)
    (inr (within_more g (2 * g + spread a) (end_of a) (laid g a.turn e) (omega arith) (end_spot_near a g e near)))

pub last_by_arc : (a : ArcShape) (g : ℕ) (l e : Spot) (k : ℕ) → IsArc a → IsNearestSpot g (view_of a).centre (view_of a).end e →
    squared_distance (end_of a) (laid g a.turn l) ≤ 15 * (g * g) → IsNearHull a (2 * g + spread a) (laid g a.turn l) →
    IsByArc a g (4 * g) (laid g a.turn (straight_at l e k))
last_by_arc a g l e k arc near first held = record {
  band = last_in_band a g l e k arc near first;
  sector = inr (last_by_end a g l e k near first);
  box = straight_in_hull a g (2 * g + spread a) l e k held (end_spot_in_hull a g e near);
}

pub last_goes_on : (a : ArcShape) (g : ℕ) (l e : Spot) (k : ℕ) (q : Point2) → IsNearestSpot g (view_of a).centre (view_of a).end e →
    squared_distance (end_of a) (laid g a.turn l) ≤ 15 * (g * g) → GoesOn a (4 * g + spread a) (laid g a.turn (straight_at l e k)) q
last_goes_on a g l e k q near first = inr (inl (last_by_end a g l e k near first))

-- its moves cover at most five steps
pub last_short : (a : ArcShape) (g : ℕ) (l e : Spot) → IsNearestSpot g (view_of a).centre (view_of a).end e →
    squared_distance (end_of a) (laid g a.turn l) ≤ 15 * (g * g) → straight_moves l e * g ≤ 5 * g
last_short a g l e near first =
    let x = laid g a.turn l in
    let y = laid g a.turn e in
    let all = plane_above x (end_of a) y (4 * g) g (omega (arith, first, apart_back x (end_of a))) (end_spot_near a g e near) in
    let m = moves_within g (4 * g + g) a.turn l e all in
    omega (arith, m)

-- ---- a tiny arc

tiny_short : (a : ArcShape) (g : ℕ) (p e : Spot) → IsArc a → IsTiny a g → IsNearestSpot g (view_of a).centre (view_of a).start p →
    IsNearestSpot g (view_of a).centre (view_of a).end e → straight_moves p e * g ≤ 5 * g + spread a
tiny_short a g p e arc tiny first last =
    let n = straight_moves p e in
    let s = start_of a in
    let x = laid g a.turn p in
    let y = laid g a.turn e in
    let far : IsWithin (4 * g + spread a) s y = subst (λ (q : Spot). IsWithin (4 * g + spread a) s (laid g a.turn q)) (straight_ends p e n (omega arith))
    (tiny_by_start a g p e n arc tiny first last) in
    let h = plane_above x s y g (4 * g + spread a) (omega (arith, apart_back x s, start_spot_near a g p first)) far in
    moves_within g (5 * g + spread a) a.turn p e (omega (arith, h))

pub tiny_follows : (a : ArcShape) (g : ℕ) (p e : Spot) → IsArc a → 500 ≤ g → IsTiny a g → IsNearestSpot g (view_of a).centre (view_of a).start p →
    IsNearestSpot g (view_of a).centre (view_of a).end e →
    FollowsInPlane a g (straight_moves p e) (λ k. laid g a.turn (straight_at p e k))
tiny_follows a g p e arc step tiny first last =
    let r = tiny_radii a g arc tiny in
    let wide : leeway (pos g) a ≡ 4 * g = small_leeway a g (omega (arith, r.small)) in
    let enough : 5 * g + spread a ≡ leeway (pos g) a + g + spread a = omega (arith, wide) in
    let start_in : IsNearHull a (2 * g + spread a) (laid g a.turn p) =
    by_end_in_hull a (2 * g + spread a) (laid g a.turn p)
    (inl (within_more g (2 * g + spread a) (start_of a) (laid g a.turn p) (omega arith) (start_spot_near a g p first))) in
    record {
      near = λ k le. subst (λ w. IsByArc a g w (laid g a.turn (straight_at p e k))) (sym wide) (record {
        band = tiny_in_band a g p e k arc step tiny first last;
        sector = inr (tiny_by_an_end a g p e k arc tiny first last);
        box = straight_in_hull a g (2 * g + spread a) p e k start_in (end_spot_in_hull a g e last);
      });
      onward = λ k le. inr (inl (tiny_by_an_end a g p e k arc tiny first last));
      order =
          subst (λ d. Passes (λ k. laid g a.turn (straight_at p e k)) (straight_moves p e) d 0 (extremes a)) enough (tiny_passes a g p e arc tiny first last);
      short = omega (arith, tiny_short a g p e arc tiny first last);
    }

-- The wheel's part and the last one, for both sizes of circles.
use Rattle.std.proofs.Common.{◌≡◌, ℕ, suc, ◌+◌, ◌-◌, ◌*◌, ◌/◌, ◌<◌, ◌≤◌, pos, ◌+ℤ◌, ◌*ℤ◌, inl, inr, sym, subst, arith}
use Rattle.std.proofs.lemmas.Bool.{cases_lt}
use Rattle.std.proofs.Math.Nat.{mul-le-mul_left}
use Rattle.ngc_fixed_length.specs.Grid.{distance}
use Rattle.ngc_fixed_length.specs.Roots.{IsRootCeil}
use Rattle.ngc_fixed_length.specs.declared.points.Point2.{Point2}
use Rattle.ngc_circle_walk.specs.declared.spoke.Spoke.{Spoke}
use Rattle.ngc_circle_walk.specs.Rolling.{spoke_at, quadrant_at}
use Rattle.ngc_circle_walk.specs.Wheel.{next_roll}
use Rattle.ngc_circle_walk.proofs.WheelStart.{twice_low}
use Rattle.ngc_circle_walk.proofs.NearEnd.{IsRay, limit_of}
use Rattle.ngc_circle_walk.proofs.Rays.{square_le}
use Rattle.ngc_circle_walk.proofs.SmallCircles.{IsSlim}
use Rattle.ngc_arc_geometry.specs.Shape.{ArcShape, end_of}
use Rattle.ngc_arc_geometry.specs.Radii.{squared_distance}
use Rattle.ngc_arc_geometry.specs.ArcBand.{leeway, spread, IsWithin}
use Rattle.ngc_circle_laws.specs.Hull.{IsNearHull}
use Rattle.ngc_circle_laws.proofs.Circuit.{below_on, above_on}
use Rattle.ngc_circle_laws.proofs.LastPoints.{large_last, small_last}
use Rattle.ngc_circle_laws.proofs.Followed.{large_keeps, small_keeps}
use Rattle.ngc_circle_laws.proofs.Lengths.{large_length, small_length, large_few, small_few}
use Rattle.ngc_circle_laws.proofs.Lifts.{some_leeway}
use Rattle.ngc_circle_laws.proofs.SmallCircuit.{small_near, small_above}
use Rattle.ngc_step_kernel.specs.declared.plan.Plan.{Plan}
use Rattle.ngc_step_kernel.specs.declared.spot.Spot.{Spot}
use Rattle.ngc_step_kernel.specs.About.{IsAbout}
use Rattle.ngc_step_kernel.specs.Course.{last_of}
use Rattle.ngc_step_kernel.specs.PlaneCourse.{laid, IsByArc}
use Rattle.ngc_step_kernel.specs.Plans.{IsRoundPlan}
use Rattle.ngc_step_kernel.specs.Spots.{straight_at}
use Rattle.ngc_step_kernel.specs.View.{squared, view_of, place_of}
use Rattle.ngc_step_kernel.proofs.EntryLemmas.{square_of_way}
use Rattle.ngc_step_kernel.proofs.LastMoves.{IsShortOf, short_by_arc, short_within}
use Rattle.ngc_step_kernel.proofs.LastPoints.{large_last_short, small_last_near, last_quadrants}
use Rattle.ngc_step_kernel.proofs.OnRim.{about_on}
use Rattle.ngc_step_kernel.proofs.PartsFollow.{last_by_arc, last_short, by_end_more}
use Rattle.ngc_step_kernel.proofs.PlaneApart.{end_apart}
use Rattle.ngc_step_kernel.proofs.RoundFollows.{HasRest, rounded_is, laid_round}
use Rattle.ngc_step_kernel.proofs.RoundParts.{IsRoundSetting, large_circuit, small_circuit, last_roll}
use Rattle.ngc_step_kernel.proofs.Settings.{sizes}
use Rattle.ngc_step_kernel.proofs.StraightParts.{last_by_end}
use Rattle.ngc_step_kernel.proofs.TinyPoints.{small_leeway}
use Rattle.ngc_step_kernel.proofs.ViewLemmas.{squared_is}

-- the end as the end of a ray
pub ray_of : (a : ArcShape) (q : ℕ) (e : Spoke) → IsRootCeil (squared (view_of a).end) (q + 1) → squared (view_of a).end ≡ e.x * e.x + e.y * e.y →
    IsRay q e.x e.y
ray_of a q e root same = record {
  small = elim (cases_lt (squared (view_of a).end) (q * q)) [
    | inr fine ↦ omega (arith, fine, same)
    | inl less ↦ (let h = root.least q (omega (arith, less)) in absurd (omega (arith, h)))
  ];
  great = omega (arith, root.square, same);
}

short_square : (m n g : ℕ) → 20 * m < 37 * g → 20 * n < 37 * g → m * m + n * n ≤ 15 * (g * g)
short_square m n g a b =
    let c = square_le (20 * m) (37 * g) (omega (arith, a)) in
    let d = square_le (20 * n) (37 * g) (omega (arith, b)) in
    omega (arith, c, d)

pub near_of_short : (a : ArcShape) (g : ℕ) (l : Spot) → IsShortOf g (view_of a).centre (view_of a).end l →
    squared_distance (end_of a) (laid g a.turn l) ≤ 15 * (g * g)
near_of_short a g l h =
    let w = (view_of a).end in
    let c = (view_of a).centre in
    subst (λ t. t ≤ 15 * (g * g)) (sym (end_apart a g l)) (short_square (distance (c.u +ℤ w.u) (l.u *ℤ pos g)) (distance (c.v +ℤ w.v) (l.v *ℤ pos g)) g h.u h.v)

pub after_end : (a : ArcShape) (g k : ℕ) (l e : Spot) → IsWithin g (end_of a) (laid g a.turn (straight_at l e (suc k))) →
    IsWithin g (end_of a) (laid g a.turn (straight_at l e (k + 1)))
after_end a g k l e h = let n : suc k ≡ k + 1 = omega arith in subst (λ t. IsWithin g (end_of a) (laid g a.turn (straight_at l e t))) n h

pub large_rest : (a : ArcShape) (g s r q left : ℕ) (from to joint entry : Spot) (first last : Spoke) (p : Plan) →
    IsRoundSetting a g s r (q + 1) left (p.rolled - p.entered) from to joint entry first last → 8 * g ≤ q + 1 →
    IsRoundPlan from joint entry to first last left g (limit_of q (2 * g / 5)) p → HasRest a g (limit_of q (2 * g / 5)) (p.rolled - p.entered) left to first p
large_rest a g s r q left from to joint entry first last p z large plan =
    let m = p.rolled - p.entered in
    let n = sizes a g s r (q + 1) from to joint entry first last z.setting in
    let h = 2 * g / 5 in
    let k = g / 2 in
    let l = 4 * g / 5 in
    let v = q + 1 - 4 * g / 5 in
    let limit = limit_of q h in
    let at = spoke_at g limit first in
    let quadrant = quadrant_at g limit first in
    let c = large_circuit a g s r q left m from to joint entry first last z large in
    let b = c.0 in
    let begun = c.1.0 in
    let circuit = c.1.1.0 in
    let w = c.1.1.1 in
    let same : q + 1 ≡ r = omega (arith, z.setting.circle, large, z.setting.least) in
    let keeps = large_keeps a g q h k l v m at quadrant b last begun left w.start_end.0 w.end_end.0 circuit w.start_end.1 w.end_end.1 in
    let bound : q + 1 ≤ 2000020000 =
    omega (arith, same, z.setting.end_root.least 2000020000 (omega (arith, squared_is a.turn a.centre (end_of a), z.setting.arc.radius))) in
    let few = large_few a g q h k l v m at quadrant b last begun left circuit bound in
    let roll = last_roll g limit m left first last z.before (z.past few) in
    let root : IsRootCeil (squared (view_of a).end) (q + 1) = subst (λ t. IsRootCeil (squared (view_of a).end) t) (sym same) z.setting.end_root in
    let ray = ray_of a q last root (sym (square_of_way (view_of a).end last z.setting.end_way)) in
    let near = large_last g q h k l v (at m) last (next_roll g limit (at m)) (quadrant m) left circuit.rim ray
    (below_on a g q h k l v m at quadrant b last begun left m circuit (omega arith))
    (above_on a g q h k l v m at quadrant b last begun left m circuit (omega arith)) roll in
    let quad = last_quadrants a g limit m at quadrant b last begun left w.walk in
    let about : IsAbout g (place_of (view_of a).centre) (last_of p) (at m) =
    subst (λ (t : Spot). IsAbout g (place_of (view_of a).centre) t (at m)) (sym (rounded_is g limit left from joint entry to first last p m plan))
    (about_on g limit (place_of (view_of a).centre) first entry m z.setting.about) in
    let short = large_last_short g (view_of a).centre (view_of a).end (last_of p) (at m) last (quadrant m) left about z.setting.end_way quad.0 quad.1 near in
    let some = some_leeway g a in
    let there = laid_round a g limit left from joint entry to first last p m plan z.setting.about in
    let by : IsByArc a g (leeway (pos g) a) (laid g a.turn (last_of p)) = subst (λ (t : Point2). IsByArc a g (leeway (pos g) a) t) (sym there) (record {
      band = keeps.band m (omega arith);
      sector = keeps.sector (leeway (pos g) a + spread a) m (omega arith);
      box = keeps.box m (omega arith);
    }) in
    record {
      keeps = keeps;
      last = λ i. short_by_arc a g (leeway (pos g) a) (last_of p) to i z.setting.arc some z.setting.end_at short by;
      beside = λ i. by_end_more a g (4 * g + spread a) (laid g a.turn (straight_at (last_of p) to (i + 1))) (omega arith)
          (inr (after_end a g i (last_of p) to (short_within a g (last_of p) to i z.setting.end_at short)));
      few = last_short a g (last_of p) to z.setting.end_at (near_of_short a g (last_of p) short);
      long = (let d = large_length a g q h k l v m at quadrant b last begun left circuit in omega (arith, d, same, n.end_outer));
    }

pub small_rest : (a : ArcShape) (g s q o left : ℕ) (from to joint entry : Spot) (first last : Spoke) (p : Plan) →
    IsRoundSetting a g s (q + 1) o left (p.rolled - p.entered) from to joint entry first last → o < 8 * g →
    IsRoundPlan from joint entry to first last left g ((o + 2 * g / 5) * (o + 2 * g / 5)) p →
    HasRest a g ((o + 2 * g / 5) * (o + 2 * g / 5)) (p.rolled - p.entered) left to first p
small_rest a g s q o left from to joint entry first last p z small plan =
    let m = p.rolled - p.entered in
    let r = q + 1 in
    let n = sizes a g s r o from to joint entry first last z.setting in
    let h = 2 * g / 5 in
    let l = 11 * g / 10 in
    let i = 4 * g / 5 in
    let v = o - 4 * g / 5 in
    let limit = (o + h) * (o + h) in
    let at = spoke_at g limit first in
    let quadrant = quadrant_at g limit first in
    let c = small_circuit a g s r o left m from to joint entry first last z (omega (arith, small)) in
    let b = c.0 in
    let begun = c.1.0 in
    let circuit = c.1.1.0 in
    let w = c.1.1.1 in
    let wide = small_leeway a g (omega (arith, n.end_inner, n.no_less, small)) in
    let keeps = small_keeps a g o h l i v r m at quadrant b last begun left w.start_end.0 w.end_end.0 circuit wide
    (omega (arith, n.end_outer)) w.start_end.1 w.end_end.1 in
    let few = small_few a g o h l i v r m at quadrant b last begun left circuit (omega (arith, small, z.setting.most)) in
    let roll = last_roll g limit m left first last z.before (z.past few) in
    let ray = ray_of a q last z.setting.end_root (sym (square_of_way (view_of a).end last z.setting.end_way)) in
    let band = small_near a g o h l i v r m at quadrant b last begun left m circuit (omega arith) in
    let above = small_above a g o h l i v r m at quadrant b last begun left m circuit (omega arith) in
    let slim : IsSlim g q (at m).x (at m).y = record {
      step = z.setting.least;
      small = omega (arith, n.no_less, small);
      below = band.below;
      above = λ far. (
          let same : o ≡ r = omega (arith, z.setting.circle, far, z.setting.least) in
          let d = square_le r (v + g) (omega (arith, same, circuit.size.inner, circuit.size.m_high)) in
          let e = mul-le-mul_left g (let k : 2 * v + g ≤ 2 * r = omega (arith, same, circuit.size.inner, circuit.size.m_low, z.setting.least) in k) in
          omega (arith, above.all, d, e));
      outside = λ near. omega (arith, above.by_axis near, twice_low g o h l i v circuit.size);
    } in
    let near = small_last g q limit (at m) last (next_roll g limit (at m)) (quadrant m) left slim ray roll in
    let quad = last_quadrants a g limit m at quadrant b last begun left w.walk in
    let about : IsAbout g (place_of (view_of a).centre) (last_of p) (at m) =
    subst (λ (t : Spot). IsAbout g (place_of (view_of a).centre) t (at m)) (sym (rounded_is g limit left from joint entry to first last p m plan))
    (about_on g limit (place_of (view_of a).centre) first entry m z.setting.about) in
    let by = small_last_near a g (last_of p) (at m) last (quadrant m) left about z.setting.end_way quad.0 quad.1 near in
    let there = laid_round a g limit left from joint entry to first last p m plan z.setting.about in
    let box : IsNearHull a (2 * g + spread a) (laid g a.turn (last_of p)) =
    subst (λ (t : Point2). IsNearHull a (2 * g + spread a) t) (sym there) (keeps.box m (omega arith)) in
    record {
      keeps = keeps;
      last = λ k. subst (λ t. IsByArc a g t (laid g a.turn (straight_at (last_of p) to k))) (sym wide)
          (last_by_arc a g (last_of p) to k z.setting.arc z.setting.end_at by box);
      beside = λ k. last_by_end a g (last_of p) to (k + 1) z.setting.end_at by;
      few = last_short a g (last_of p) to z.setting.end_at by;
      long = (let d = small_length a g o h l i v r m at quadrant b last begun left circuit in omega (arith, d, n.end_outer));
    }

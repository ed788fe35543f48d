-- The same, from what is known where the course is planned.
use Rattle.std.proofs.Common.{◌≡◌, ℕ, ◌+◌, ◌-◌, ◌*◌, ◌/◌, ◌<◌, ◌≤◌, max, pos, inl, inr, sym, subst, arith}
use Rattle.std.specs.Prelude.{None, int_lt}
use Rattle.std.proofs.lemmas.Bool.{cases_lt}
use Rattle.ngc_fixed_length.specs.Roots.{IsRootCeil}
use Rattle.ngc_circle_walk.specs.Around.{way_to}
use Rattle.ngc_circle_walk.specs.Quadrants.{quadrants_to}
use Rattle.ngc_circle_walk.specs.Wheel.{is_before}
use Rattle.ngc_circle_walk.specs.declared.spoke.Spoke.{Spoke}
use Rattle.ngc_arc_geometry.specs.Shape.{ArcShape, start_of}
use Rattle.ngc_arc_geometry.specs.Radii.{lo, IsArc}
use Rattle.ngc_circle_laws.proofs.Lifts.{some_leeway}
use Rattle.ngc_step_kernel.specs.declared.plan.Plan.{Plan}
use Rattle.ngc_step_kernel.specs.declared.spot.Spot.{Spot}
use Rattle.ngc_step_kernel.specs.declared.view.View.{View}
use Rattle.ngc_step_kernel.specs.About.{IsAbout}
use Rattle.ngc_step_kernel.specs.Course.{IsPlan, course_at}
use Rattle.ngc_step_kernel.specs.Entered.{way_cross, IsEntered}
use Rattle.ngc_step_kernel.specs.PlaneCourse.{laid, FollowsInPlane}
use Rattle.ngc_step_kernel.specs.Plans.{IsJointPlan}
use Rattle.ngc_step_kernel.specs.Spots.{straight_moves}
use Rattle.ngc_step_kernel.specs.View.{squared, view_of, way_from, place_of, quadrants_left, IsMoved, IsNearestSpot}
use Rattle.ngc_step_kernel.proofs.JointPlanParts.{IsBentSetting, bent_follows, large_tail, small_tail}
use Rattle.ngc_step_kernel.proofs.CourseFollows.{some_more}
use Rattle.ngc_step_kernel.proofs.RoundFollows.{has_first}
use Rattle.ngc_step_kernel.proofs.Settings.{sizes}
use Rattle.ngc_step_kernel.proofs.TinyPoints.{small_leeway}
use Rattle.ngc_step_kernel.proofs.ViewLemmas.{squared_is}

large_bent : (a : ArcShape) (g s r q : ℕ) (from to joint entry : Spot) (first last : Spoke) (p : Plan) →
    IsBentSetting a g s r (q + 1) from to joint entry first last → 8 * g ≤ q + 1 → IsPlan p → IsJointPlan from joint to p →
    FollowsInPlane a g p.moves (λ j. laid g a.turn (course_at p j))
large_bent a g s r q from to joint entry first last p z large plan bent =
    let n = sizes a g s r (q + 1) from to joint entry first last z.setting in
    let some = some_leeway g a in
    let part = has_first a g s r (q + 1) 0 from to joint entry first last z.setting (omega (arith, z.setting.circle, large, z.setting.least, n.end_outer))
    (omega arith) (omega (arith, some)) in
    bent_follows a g from joint to p plan bent part (large_tail a g s r q from to joint entry first last z large part)

small_bent : (a : ArcShape) (g s q o : ℕ) (from to joint entry : Spot) (first last : Spoke) (p : Plan) →
    IsBentSetting a g s (q + 1) o from to joint entry first last → o < 8 * g → IsPlan p → IsJointPlan from joint to p →
    FollowsInPlane a g p.moves (λ j. laid g a.turn (course_at p j))
small_bent a g s q o from to joint entry first last p z small plan bent =
    let n = sizes a g s (q + 1) o from to joint entry first last z.setting in
    let wide = small_leeway a g (omega (arith, n.end_inner, n.no_less, small)) in
    let part = has_first a g s (q + 1) o g from to joint entry first last z.setting (omega (arith, n.no_more, n.end_outer)) (omega arith)
    (omega (arith, wide)) in
    bent_follows a g from joint to p plan bent part (small_tail a g s q o from to joint entry first last z small part)

bent_set : (a : ArcShape) (g s r o : ℕ) (from to joint entry : Spot) (first last : Spoke) (p : Plan) → IsBentSetting a g s r o from to joint entry first last →
    IsPlan p → IsJointPlan from joint to p →
    FollowsInPlane a g p.moves (λ j. laid g a.turn (course_at p j))
bent_set a g s r o from to joint entry first last p z plan bent =
    let n = sizes a g s r o from to joint entry first last z.setting in
    elim (cases_lt o (8 * g)) [
      | inl small ↦ (
          let e : r - 1 + 1 ≡ r = omega (arith, n.end_long, z.setting.least) in
          small_bent a g s (r - 1) o from to joint entry first last p (subst (λ t. IsBentSetting a g s t o from to joint entry first last) (sym e) z)
          small plan bent)
      | inr large ↦ (
          let e : o - 1 + 1 ≡ o = omega (arith, large, z.setting.least) in
          large_bent a g s r (o - 1) from to joint entry first last p (subst (λ t. IsBentSetting a g s r t from to joint entry first last) (sym e) z)
          (omega (arith, large, e)) plan bent)
    ]

pub record IsBentGiven (a : ArcShape) (g s r o limit : ℕ) (v : View) (from to joint entry : Spot) (first last : Spoke) (p : Plan) : Type 0 where
  pub arc : IsArc a
  pub least : 500 ≤ g
  pub most : g ≤ 50000
  pub wide : 9 * (g * g) ≤ 4 * lo a
  pub start_root : IsRootCeil (squared v.start) s
  pub end_root : IsRootCeil (squared v.end) r
  pub circle : o ≡ max r (9 * g / 4 + 1)
  pub limit_is : limit ≡ (o + 2 * g / 5) * (o + 2 * g / 5)
  pub start_at : IsNearestSpot g v.centre v.start from
  pub end_at : IsNearestSpot g v.centre v.end to
  pub moved_u : IsMoved g s o v.centre.u v.start.u joint.u
  pub moved_v : IsMoved g s o v.centre.v v.start.v joint.v
  pub about : IsAbout g (place_of v.centre) entry first
  pub entered : IsEntered g limit v.start (way_from g v.centre joint) first
  pub beside : straight_moves joint entry ≤ 1
  pub end_way : way_to last ≡ place_of v.end
  pub end_out : 0 < last.x
  pub none : quadrants_left (quadrants_to first.quadrant last.quadrant) (int_lt (pos 0) (way_cross v.start v.end)) (is_before first last) ≡ None
  pub plan : IsPlan p
  pub bent : IsJointPlan from joint to p

bent_given : (a : ArcShape) (g s r o : ℕ) (from to joint entry : Spot) (first last : Spoke) (p : Plan) →
    IsBentGiven a g (s + 1) r o ((o + 2 * g / 5) * (o + 2 * g / 5)) (view_of a) from to joint entry first last p →
    FollowsInPlane a g p.moves (λ j. laid g a.turn (course_at p j))
bent_given a g s r o from to joint entry first last p z =
    bent_set a g s r o from to joint entry first last p (record {
      setting = record {
        least = z.least;
        most = z.most;
        arc = z.arc;
        wide = z.wide;
        start_root = z.start_root;
        end_root = z.end_root;
        circle = z.circle;
        start_at = z.start_at;
        end_at = z.end_at;
        moved_u = z.moved_u;
        moved_v = z.moved_v;
        about = z.about;
        entered = z.entered;
        beside = z.beside;
        end_way = z.end_way;
        end_out = z.end_out;
      };
      none = z.none;
    }) z.plan z.bent

pub bent_seen : (a : ArcShape) (g s r o limit : ℕ) (v : View) (from to joint entry : Spot) (first last : Spoke) (p : Plan) → v ≡ view_of a →
    IsBentGiven a g s r o limit v from to joint entry first last p →
    FollowsInPlane a g p.moves (λ j. laid g a.turn (course_at p j))
bent_seen a g s r o limit v from to joint entry first last p seen z =
    let zv = subst (λ (w : View). IsBentGiven a g s r o limit w from to joint entry first last p) seen z in
    let zl = subst (λ t. IsBentGiven a g s r o t (view_of a) from to joint entry first last p) z.limit_is zv in
    let same = squared_is a.turn a.centre (start_of a) in
    let e = some_more s (squared (view_of a).start) (omega (arith, same, z.arc.some_radius)) zv.start_root.square in
    bent_given a g (s - 1) r o from to joint entry first last p
    (subst (λ t. IsBentGiven a g t r o ((o + 2 * g / 5) * (o + 2 * g / 5)) (view_of a) from to joint entry first last p) (sym e) zl)

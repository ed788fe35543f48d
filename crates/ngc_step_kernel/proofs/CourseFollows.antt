-- Each kind of plan has a course that follows its arc.
use Rattle.std.proofs.Common.{◌≡◌, ℕ, ◌+◌, ◌-◌, ◌*◌, ◌/◌, ◌<◌, ◌≤◌, min, max, pos, inl, inr, refl, sym, ◌∙◌, ap, subst, arith}
use Rattle.std.specs.Prelude.{Bool, true, false, nat_lt, Some, int_lt}
use Rattle.std.proofs.lemmas.Bool.{cases_lt}
use Rattle.ngc_fixed_length.specs.Roots.{IsRootCeil}
use Rattle.ngc_fixed_length.specs.declared.points.Point2.{Point2}
use Rattle.ngc_circle_walk.specs.Around.{way_to}
use Rattle.ngc_circle_walk.specs.Quadrants.{quadrants_to}
use Rattle.ngc_circle_walk.specs.Wheel.{is_before}
use Rattle.ngc_circle_walk.specs.declared.spoke.Spoke.{Spoke}
use Rattle.ngc_circle_walk.proofs.NearEnd.{limit_of}
use Rattle.ngc_arc_geometry.specs.Shape.{ArcShape, start_of, end_of}
use Rattle.ngc_arc_geometry.specs.Radii.{lo, outer_radius, IsArc}
use Rattle.ngc_arc_geometry.specs.ArcBand.{leeway, spread}
use Rattle.ngc_arc_geometry.specs.ArcOrder.{GoesOn}
use Rattle.ngc_arc_geometry.specs.Sector.{extremes}
use Rattle.ngc_circle_laws.proofs.Lifts.{some_leeway, passes_along}
use Rattle.ngc_step_kernel.specs.declared.plan.Plan.{Plan}
use Rattle.ngc_step_kernel.specs.declared.spot.Spot.{Spot}
use Rattle.ngc_step_kernel.specs.Course.{IsPlan, course_at, last_of, rounded}
use Rattle.ngc_step_kernel.specs.PlaneCourse.{laid, IsByArc, FollowsInPlane}
use Rattle.ngc_step_kernel.specs.Plans.{IsRoundPlan, IsStraightPlan}
use Rattle.ngc_step_kernel.specs.Spots.{straight_at, straight_moves}
use Rattle.ngc_step_kernel.specs.View.{squared, view_of, way_from, place_of, quadrants_left, IsMoved, IsNearestSpot}
use Rattle.ngc_step_kernel.specs.declared.view.View.{View}
use Rattle.ngc_step_kernel.specs.About.{IsAbout}
use Rattle.ngc_step_kernel.specs.Entered.{way_cross, IsEntered}
use Rattle.ngc_step_kernel.proofs.CourseLemmas.{to_end, round_starts}
use Rattle.ngc_step_kernel.proofs.PartsFollow.{tiny_follows}
use Rattle.ngc_step_kernel.proofs.RoundFollows.{HasFirst, HasRest, has_first, round_parts, round_order}
use Rattle.ngc_step_kernel.proofs.RoundParts.{IsRoundSetting}
use Rattle.ngc_step_kernel.proofs.RoundRest.{large_rest, small_rest}
use Rattle.ngc_step_kernel.proofs.Settings.{sizes}
use Rattle.ngc_step_kernel.proofs.TinyArcs.{IsTiny, tiny_seen}
use Rattle.ngc_step_kernel.proofs.AroundLemmas.{some_root}
use Rattle.ngc_step_kernel.proofs.ViewLemmas.{squared_is}
use Rattle.ngc_step_kernel.proofs.TinyPoints.{small_leeway}
use Rattle.ngc_step_kernel.proofs.CourseParts.{together}

by_parts : (a : ArcShape) (g s r o left : ℕ) (from to joint entry : Spot) (first last : Spoke) (p : Plan) →
    IsRoundSetting a g s r o left (p.rolled - p.entered) from to joint entry first last → IsPlan p →
    IsRoundPlan from joint entry to first last left g ((o + 2 * g / 5) * (o + 2 * g / 5)) p → HasFirst a g from joint →
    HasRest a g ((o + 2 * g / 5) * (o + 2 * g / 5)) (p.rolled - p.entered) left to first p →
    FollowsInPlane a g p.moves (λ j. laid g a.turn (course_at p j))
by_parts a g s r o left from to joint entry first last p z plan round part rest =
    let limit = (o + 2 * g / 5) * (o + 2 * g / 5) in
    together a g p (round_parts a g limit left from joint entry to first last p plan round z.setting.about z.setting.beside part rest)
    (round_order a g limit left from joint entry to first last p plan round z.setting.about rest.keeps)

large_follows : (a : ArcShape) (g s r q left : ℕ) (from to joint entry : Spot) (first last : Spoke) (p : Plan) →
    IsRoundSetting a g s r (q + 1) left (p.rolled - p.entered) from to joint entry first last → 8 * g ≤ q + 1 → IsPlan p →
    IsRoundPlan from joint entry to first last left g (limit_of q (2 * g / 5)) p → FollowsInPlane a g p.moves (λ j. laid g a.turn (course_at p j))
large_follows a g s r q left from to joint entry first last p z large plan round =
    let n = sizes a g s r (q + 1) from to joint entry first last z.setting in
    let out : q + 1 ≤ outer_radius a + 0 = omega (arith, z.setting.circle, large, z.setting.least, n.end_outer) in
    let some = some_leeway g a in
    by_parts a g s r (q + 1) left from to joint entry first last p z plan round
    (has_first a g s r (q + 1) 0 from to joint entry first last z.setting out (omega arith) (omega (arith, some)))
    (large_rest a g s r q left from to joint entry first last p z large round)

small_follows : (a : ArcShape) (g s q o left : ℕ) (from to joint entry : Spot) (first last : Spoke) (p : Plan) →
    IsRoundSetting a g s (q + 1) o left (p.rolled - p.entered) from to joint entry first last → o < 8 * g → IsPlan p →
    IsRoundPlan from joint entry to first last left g ((o + 2 * g / 5) * (o + 2 * g / 5)) p → FollowsInPlane a g p.moves (λ j. laid g a.turn (course_at p j))
small_follows a g s q o left from to joint entry first last p z small plan round =
    let n = sizes a g s (q + 1) o from to joint entry first last z.setting in
    let wide = small_leeway a g (omega (arith, n.end_inner, n.no_less, small)) in
    by_parts a g s (q + 1) o left from to joint entry first last p z plan round
    (has_first a g s (q + 1) o g from to joint entry first last z.setting (omega (arith, n.no_more, n.end_outer)) (omega arith) (omega (arith, wide)))
    (small_rest a g s q o left from to joint entry first last p z small round)

pub round_follows : (a : ArcShape) (g s r o left : ℕ) (from to joint entry : Spot) (first last : Spoke) (p : Plan) →
    IsRoundSetting a g s r o left (p.rolled - p.entered) from to joint entry first last → IsPlan p →
    IsRoundPlan from joint entry to first last left g ((o + 2 * g / 5) * (o + 2 * g / 5)) p → FollowsInPlane a g p.moves (λ j. laid g a.turn (course_at p j))
round_follows a g s r o left from to joint entry first last p z plan round =
    let n = sizes a g s r o from to joint entry first last z.setting in
    elim (cases_lt o (8 * g)) [
      | inl small ↦ (
          let e : r - 1 + 1 ≡ r = omega (arith, n.end_long, z.setting.least) in
          small_follows a g s (r - 1) o left from to joint entry first last p
          (subst (λ t. IsRoundSetting a g s t o left (p.rolled - p.entered) from to joint entry first last) (sym e) z) small plan round)
      | inr large ↦ (
          let e : o - 1 + 1 ≡ o = omega (arith, large, z.setting.least) in
          large_follows a g s r (o - 1) left from to joint entry first last p
          (subst (λ t. IsRoundSetting a g s r t left (p.rolled - p.entered) from to joint entry first last) (sym e) z) (omega (arith, large, e)) plan
          (subst (λ t. IsRoundPlan from joint entry to first last left g ((t + 2 * g / 5) * (t + 2 * g / 5)) p) (sym e) round))
    ]

-- ---- tiny arcs, straight

straight_course : (from to : Spot) (p : Plan) (k : ℕ) → IsPlan p → IsStraightPlan from to p → course_at p k ≡ straight_at from to k
straight_course from to p k plan s =
    let none : p.rolled - p.entered ≡ 0 = omega (arith, s.rolled) in
    let last : last_of p ≡ from = ap (λ n. rounded p n) none ∙ round_starts p.step p.limit p.first p.entry ∙ s.enters in
    let e : k - p.rolled ≡ k = omega (arith, s.rolled) in
    to_end p k plan (omega (arith, s.rolled)) ∙ rw (last, s.ends, e) refl

straight_count : (from to : Spot) (p : Plan) → IsPlan p → IsStraightPlan from to p → p.moves ≡ straight_moves from to
straight_count from to p plan s =
    let none : p.rolled - p.entered ≡ 0 = omega (arith, s.rolled) in
    let last : last_of p ≡ from = ap (λ n. rounded p n) none ∙ round_starts p.step p.limit p.first p.entry ∙ s.enters in
    let e : straight_moves (last_of p) p.end ≡ straight_moves from to = rw (last, s.ends) refl in
    omega (arith, plan.moves, s.rolled, e)

-- the same points under other names
pub follows_same : (a : ArcShape) (g m n : ℕ) (f h : ℕ → Point2) → m ≡ n → ((k : ℕ) → h k ≡ f k) → FollowsInPlane a g m f → FollowsInPlane a g n h
follows_same a g m n f h count same z = subst (λ t. FollowsInPlane a g t h) count (record {
  near = λ k le. subst (λ (q : Point2). IsByArc a g (leeway (pos g) a) q) (sym (same k)) (z.near k le);
  onward = λ k less. subst (λ (q : Point2). GoesOn a (4 * g + spread a) q (h (k + 1))) (sym (same k))
      (subst (λ (q : Point2). GoesOn a (4 * g + spread a) (f k) q) (sym (same (k + 1))) (z.onward k less));
  order = passes_along f h (λ k. k) m m (leeway (pos g) a + g + spread a) 0 (extremes a) (λ k le. same k) (λ j k le. le) (omega arith) z.order;
  short = z.short;
})

pub straight_follows : (a : ArcShape) (g : ℕ) (from to : Spot) (p : Plan) → IsArc a → 500 ≤ g → IsTiny a g →
    IsNearestSpot g (view_of a).centre (view_of a).start from → IsNearestSpot g (view_of a).centre (view_of a).end to →
    IsPlan p → IsStraightPlan from to p → FollowsInPlane a g p.moves (λ j. laid g a.turn (course_at p j))
straight_follows a g from to p arc step tiny first last plan s =
    follows_same a g (straight_moves from to) p.moves (λ k. laid g a.turn (straight_at from to k)) (λ j. laid g a.turn (course_at p j))
    (sym (straight_count from to p plan s))
    (λ k. ap (λ (q : Spot). laid g a.turn q) (straight_course from to p k plan s)) (tiny_follows a g from to arc step tiny first last)

-- ---- what is known where the course is planned

pub tiny_told : (a : ArcShape) (g m : ℕ) (t : Bool) → m ≡ 4 * min (squared (view_of a).start) (squared (view_of a).end) → t ≡ nat_lt m (9 * (g * g)) →
    t ≡ true → IsTiny a g
tiny_told a g m t e told does = tiny_seen a g (elim (cases_lt m (9 * (g * g))) [
  | inl less ↦ omega (arith, less, e)
  | inr more ↦ absurd (grind (arith, told, does, more))
])

pub wide_told : (a : ArcShape) (g m : ℕ) (t : Bool) → m ≡ 4 * min (squared (view_of a).start) (squared (view_of a).end) → t ≡ nat_lt m (9 * (g * g)) →
    t ≡ false → 9 * (g * g) ≤ 4 * lo a
wide_told a g m t e told lacks =
    let s = squared_is a.turn a.centre (start_of a) in
    let d = squared_is a.turn a.centre (end_of a) in
    elim (cases_lt m (9 * (g * g))) [
      | inr more ↦ omega (arith, more, e, s, d)
      | inl less ↦ absurd (grind (arith, told, lacks, less))
    ]

pub root_told : (n m r : ℕ) → n ≡ m → n ≤ r * r → ((t : ℕ) → n ≤ t * t → r ≤ t) → IsRootCeil m r
root_told n m r e square least = record { square = omega (arith, e, square); least = λ t h. least t (omega (arith, e, h)) }

-- the radius of the start is a number plus 1
pub some_more : (s n : ℕ) → 0 < n → n ≤ s * s → s - 1 + 1 ≡ s
some_more s n some h = let k = some_root n s some h in omega (arith, k)

-- the same for the view of the arc
pub record IsRoundGiven (a : ArcShape) (g s r o limit left : ℕ) (v : View) (from to joint entry : Spot) (first last : Spoke) (p : Plan) : Type 0 where
  pub arc : IsArc a
  pub least : 500 ≤ g
  pub most : g ≤ 50000
  pub wide : 9 * (g * g) ≤ 4 * lo a
  pub start_root : IsRootCeil (squared v.start) s
  pub end_root : IsRootCeil (squared v.end) r
  pub circle : o ≡ max r (9 * g / 4 + 1)
  pub limit_is : limit ≡ (o + 2 * g / 5) * (o + 2 * g / 5)
  pub start_at : IsNearestSpot g v.centre v.start from
  pub end_at : IsNearestSpot g v.centre v.end to
  pub moved_u : IsMoved g s o v.centre.u v.start.u joint.u
  pub moved_v : IsMoved g s o v.centre.v v.start.v joint.v
  pub about : IsAbout g (place_of v.centre) entry first
  pub entered : IsEntered g limit v.start (way_from g v.centre joint) first
  pub beside : straight_moves joint entry ≤ 1
  pub end_way : way_to last ≡ place_of v.end
  pub end_out : 0 < last.x
  pub counted : quadrants_left (quadrants_to first.quadrant last.quadrant) (int_lt (pos 0) (way_cross v.start v.end)) (is_before first last) ≡ Some left
  pub plan : IsPlan p
  pub round : IsRoundPlan from joint entry to first last left g limit p

round_given : (a : ArcShape) (g s r o left : ℕ) (from to joint entry : Spot) (first last : Spoke) (p : Plan) →
    IsRoundGiven a g (s + 1) r o ((o + 2 * g / 5) * (o + 2 * g / 5)) left (view_of a) from to joint entry first last p →
    FollowsInPlane a g p.moves (λ j. laid g a.turn (course_at p j))
round_given a g s r o left from to joint entry first last p z =
    round_follows a g s r o left from to joint entry first last p (record {
      setting = record {
        least = z.least;
        most = z.most;
        arc = z.arc;
        wide = z.wide;
        start_root = z.start_root;
        end_root = z.end_root;
        circle = z.circle;
        start_at = z.start_at;
        end_at = z.end_at;
        moved_u = z.moved_u;
        moved_v = z.moved_v;
        about = z.about;
        entered = z.entered;
        beside = z.beside;
        end_way = z.end_way;
        end_out = z.end_out;
      };
      counted = z.counted;
      before = z.round.before;
      past = z.round.past;
    }) z.plan z.round

pub round_seen : (a : ArcShape) (g s r o limit left : ℕ) (v : View) (from to joint entry : Spot) (first last : Spoke) (p : Plan) → v ≡ view_of a →
    IsRoundGiven a g s r o limit left v from to joint entry first last p →
    FollowsInPlane a g p.moves (λ j. laid g a.turn (course_at p j))
round_seen a g s r o limit left v from to joint entry first last p seen z =
    let zv = subst (λ (w : View). IsRoundGiven a g s r o limit left w from to joint entry first last p) seen z in
    let zl = subst (λ t. IsRoundGiven a g s r o t left (view_of a) from to joint entry first last p) z.limit_is zv in
    let same = squared_is a.turn a.centre (start_of a) in
    let e = some_more s (squared (view_of a).start) (omega (arith, same, z.arc.some_radius)) zv.start_root.square in
    round_given a g (s - 1) r o left from to joint entry first last p
    (subst (λ t. IsRoundGiven a g t r o ((o + 2 * g / 5) * (o + 2 * g / 5)) left (view_of a) from to joint entry first last p) (sym e) zl)

pub straight_seen : (a : ArcShape) (g m : ℕ) (t : Bool) (v : View) (from to : Spot) (p : Plan) → v ≡ view_of a → IsArc a → 500 ≤ g →
    m ≡ 4 * min (squared v.start) (squared v.end) → t ≡ nat_lt m (9 * (g * g)) → t ≡ true →
    IsNearestSpot g v.centre v.start from → IsNearestSpot g v.centre v.end to → IsPlan p → IsStraightPlan from to p →
    FollowsInPlane a g p.moves (λ j. laid g a.turn (course_at p j))
straight_seen a g m t v from to p seen arc step e told does first last plan s =
    let e' : m ≡ 4 * min (squared (view_of a).start) (squared (view_of a).end) = e ∙ ap (λ (w : View). 4 * min (squared w.start) (squared w.end)) seen in
    straight_follows a g from to p arc step (tiny_told a g m t e' told does) (subst (λ (w : View). IsNearestSpot g w.centre w.start from) seen first)
    (subst (λ (w : View). IsNearestSpot g w.centre w.end to) seen last) plan s

pub wide_seen : (a : ArcShape) (g m : ℕ) (t : Bool) (v : View) → v ≡ view_of a → m ≡ 4 * min (squared v.start) (squared v.end) → t ≡ nat_lt m (9 * (g * g)) →
    t ≡ false → 9 * (g * g) ≤ 4 * lo a
wide_seen a g m t v seen e told lacks = wide_told a g m t (e ∙ ap (λ (w : View). 4 * min (squared w.start) (squared w.end)) seen) told lacks

-- A course through the joint straight to the end follows a short arc.
use Rattle.std.proofs.Common.{◌≡◌, ℕ, ◌+◌, ◌-◌, ◌*◌, ◌/◌, ◌<◌, ◌≤◌, pos, ◌<ℤ◌, inl, inr, refl, sym, ◌∙◌, ap, subst, arith}
use Rattle.std.specs.Prelude.{Bool, true, false, None, int_lt}
use Rattle.std.proofs.lemmas.Bool.{cases_lt}
use Rattle.std.proofs.lemmas.Int.{ints}
use Rattle.ngc_fixed_length.specs.Places.{cross}
use Rattle.ngc_fixed_length.specs.Roots.{IsRootCeil}
use Rattle.ngc_fixed_length.specs.declared.points.Point2.{Point2}
use Rattle.ngc_circle_walk.specs.declared.spoke.Spoke.{Spoke}
use Rattle.ngc_circle_walk.specs.Around.{way_to}
use Rattle.ngc_circle_walk.specs.Quadrants.{quadrants_to}
use Rattle.ngc_circle_walk.specs.Wheel.{square, is_before}
use Rattle.ngc_circle_walk.proofs.WheelStart.{IsNearJoint, small_stands, large_stands}
use Rattle.ngc_circle_walk.proofs.CircleLaws.{rim_of}
use Rattle.ngc_circle_walk.proofs.NearEnd.{limit_of}
use Rattle.ngc_circle_walk.proofs.Rays.{square_le}
use Rattle.ngc_arc_geometry.specs.Shape.{ArcShape}
use Rattle.ngc_arc_geometry.specs.Radii.{outer_radius}
use Rattle.ngc_arc_geometry.specs.Sector.{extremes}
use Rattle.ngc_arc_geometry.specs.ArcBand.{leeway, spread, IsWithin}
use Rattle.ngc_arc_geometry.specs.ArcSides.{IsByAnEnd}
use Rattle.ngc_arc_geometry.specs.ArcOrder.{Passes}
use Rattle.ngc_circle_laws.specs.Placed.{placed, turned_by, axis_spoke, first_axis}
use Rattle.ngc_circle_laws.specs.Round.{IsRound}
use Rattle.ngc_circle_laws.proofs.FirstPoints.{Begins}
use Rattle.ngc_circle_laws.proofs.Lifts.{some_leeway, passes_along, passes_from_before}
use Rattle.ngc_circle_laws.proofs.NearEndArcs.{IsPair, IsPlacedJoint, large_stands_way, large_enters_way}
use Rattle.ngc_circle_laws.proofs.NearEndSmallArcs.{IsFew, IsSmallRay, small_stands_way, small_enters_way}
use Rattle.ngc_circle_laws.proofs.OneAxis.{passes_at_one, stood_by_axis, rolled_by_axis, small_by_axis}
use Rattle.ngc_circle_laws.proofs.PassedQuadrants.{at_most_one}
use Rattle.ngc_circle_laws.proofs.ReachedEndRays.{IsReached, SomeWay}
use Rattle.ngc_circle_laws.proofs.ShortArcs.{IsByAxis, by_axis}
use Rattle.ngc_step_kernel.specs.declared.plan.Plan.{Plan}
use Rattle.ngc_step_kernel.specs.declared.spot.Spot.{Spot}
use Rattle.ngc_step_kernel.specs.Course.{IsPlan, course_at, rounded, last_of}
use Rattle.ngc_step_kernel.specs.Entered.{way_cross, IsEnteredFrom}
use Rattle.ngc_step_kernel.specs.PlaneCourse.{laid, IsByArc, FollowsInPlane}
use Rattle.ngc_step_kernel.specs.Plans.{IsJointPlan}
use Rattle.ngc_step_kernel.specs.Spots.{straight_at, straight_moves}
use Rattle.ngc_step_kernel.specs.View.{squared, view_of, way_from, place_of, quadrants_left}
use Rattle.ngc_step_kernel.proofs.JointPlanFollows.{is_reached, short_of, near_of}
use Rattle.ngc_step_kernel.proofs.CourseLemmas.{to_joint, round_starts, straight_ends}
use Rattle.ngc_step_kernel.proofs.EntryLemmas.{about_joint, square_of_way, none_beside}
use Rattle.ngc_step_kernel.proofs.FirstPoint.{begins_at}
use Rattle.ngc_step_kernel.proofs.LastMoves.{short_by_arc, short_within}
use Rattle.ngc_step_kernel.proofs.PartsFollow.{last_by_arc, last_short, by_end_more}
use Rattle.ngc_step_kernel.proofs.RoundFollows.{HasFirst}
use Rattle.ngc_step_kernel.proofs.RoundParts.{laid_placed, small_size}
use Rattle.ngc_step_kernel.proofs.RoundRest.{ray_of, near_of_short, after_end}
use Rattle.ngc_step_kernel.proofs.RoundWalk.{start_placed, end_placed}
use Rattle.ngc_step_kernel.proofs.Settings.{IsSetting, IsInside, HasJoint, sizes, has_joint, near_joint, cross_told}
use Rattle.ngc_step_kernel.proofs.StraightParts.{last_by_end}
use Rattle.ngc_step_kernel.proofs.TinyPoints.{small_leeway}
use Rattle.ngc_step_kernel.proofs.CourseParts.{together}

-- ---- the parts of the course, if the last one is near the end

pub record HasTail (a : ArcShape) (g : ℕ) (joint to : Spot) : Type 0 where
  pub last : (k : ℕ) → IsByArc a g (leeway (pos g) a) (laid g a.turn (straight_at joint to k))
  pub beside : (k : ℕ) → IsByAnEnd a (4 * g + spread a) (laid g a.turn (straight_at joint to (k + 1)))
  pub few : straight_moves joint to * g ≤ 5 * g
  pub order : Passes (λ k. laid g a.turn joint) 0 (leeway (pos g) a + g + spread a) 0 (extremes a)

bent_last : (from joint to : Spot) (p : Plan) → IsJointPlan from joint to p → last_of p ≡ joint
bent_last from joint to p s =
    let none : p.rolled - p.entered ≡ 0 = omega (arith, s.rolled, s.entered) in
    ap (λ n. rounded p n) none ∙ round_starts p.step p.limit p.first p.entry ∙ s.enters

pub bent_follows : (a : ArcShape) (g : ℕ) (from joint to : Spot) (p : Plan) → IsPlan p → IsJointPlan from joint to p → HasFirst a g from joint →
    HasTail a g joint to →
    FollowsInPlane a g p.moves (λ j. laid g a.turn (course_at p j))
bent_follows a g from joint to p plan s part tail =
    let d = leeway (pos g) a + g + spread a in
    let last = bent_last from joint to p s in
    let none : p.rolled - p.entered ≡ 0 = omega (arith, s.rolled, s.entered) in
    let first_moves : p.joined ≡ straight_moves from joint = plan.joined ∙ rw (s.starts, s.joins) refl in
    let here : course_at p p.joined ≡ joint = to_joint p p.joined (omega arith)
    ∙ rw (s.starts, s.joins) (straight_ends from joint p.joined (omega (arith, first_moves))) in
    let at_joint : IsByArc a g (leeway (pos g) a) (laid g a.turn joint) =
    subst (λ (q : Spot). IsByArc a g (leeway (pos g) a) (laid g a.turn q)) (straight_ends from joint p.joined (omega (arith, first_moves)))
    (part.near p.joined) in
    let round_first : (k : ℕ) → k ≤ p.rolled - p.entered → rounded p k ≡ joint =
    λ k le. (let z : k ≡ 0 = omega (arith, le, none) in ap (λ n. rounded p n) z ∙ round_starts p.step p.limit p.first p.entry ∙ s.enters) in
    together a g p (record {
      plan = plan;
      first = λ k le. rw (s.starts, s.joins) (part.near k, part.beside k);
      enters = rw (s.joins, s.enters) (none_beside joint);
      round = λ k le. subst (λ (q : Spot). IsByArc a g (leeway (pos g) a) (laid g a.turn q)) (sym (round_first k le)) at_joint;
      onward = λ k less. absurd (omega (arith, less, none));
      last = λ k le. rw (last, s.ends) (tail.last k);
      beside = λ k less. rw (last, s.ends) (tail.beside k);
      short = (
          let e : straight_moves (last_of p) p.end ≡ straight_moves joint to = rw (last, s.ends) refl in
          let count : p.moves ≡ straight_moves from joint + straight_moves joint to = omega (arith, plan.moves, s.rolled, first_moves, e) in
          let h : p.moves * g ≡ (straight_moves from joint + straight_moves joint to) * g = ap (λ t. t * g) count in
          omega (arith, h, part.short, tail.few));
    })
    (passes_from_before (λ k. laid g a.turn (course_at p k)) p.moves d p.joined 0 (extremes a) (omega arith)
    (passes_along (λ k. laid g a.turn joint) (λ k. laid g a.turn (course_at p k)) (λ k. p.joined) 0 p.moves d 0 (extremes a)
    (λ k le. ap (λ (q : Spot). laid g a.turn q) here) (λ j k le. omega arith) (omega (arith, plan.moves, plan.rolled, plan.entered)) tail.order))

-- ---- the vector from the joint to the end, if no walk begins

pub record IsBentSetting (a : ArcShape) (g p r o : ℕ) (from to joint entry : Spot) (first last : Spoke) : Type 0 where
  pub setting : IsSetting a g p r o from to joint entry first last
  pub none : quadrants_left (quadrants_to first.quadrant last.quadrant) (int_lt (pos 0) (way_cross (view_of a).start (view_of a).end))
      (is_before first last) ≡ None

-- the wheel's first point, and what follows for the joint
pub record HasReached (a : ArcShape) (g p o v : ℕ) (joint : Spot) (b j first last : Spoke) : Type 0 where
  pub joint_is : HasJoint a g p o v joint b j
  pub begun : ℕ
  pub whole : ℕ
  pub begins : Begins g b first begun
  pub reach : IsReached b first last begun whole
  pub placed_joint : IsPlacedJoint g p o b j

pub has_reached : (a : ArcShape) (g p r o m v : ℕ) (from to joint entry : Spot) (first last : Spoke)
    (s : IsBentSetting a g p r o from to joint entry first last) → IsInside g o m v →
    (b : Spoke) × HasReached a g p o v joint b s.setting.entered.0 first last
has_reached a g p r o m v from to joint entry first last s inside =
    let z = s.setting in
    let n = sizes a g p r o from to joint entry first last z in
    let h = has_joint a g p r o m v from to joint entry first last z inside in
    let b = h.0 in
    let room = square_le g (o + 2 * g / 5) (omega (arith, n.circle_long)) in
    let at = begins_at a g p o v ((o + 2 * g / 5) * (o + 2 * g / 5)) joint b z.entered.0 first h.1 room z.entered.3 in
    let few : at.0 ≤ 1 = omega (arith, at.1.soon, at_most_one b.y) in
    let c = cross_told b last (view_of a).start (view_of a).end h.1.start_way z.end_way in
    let reach = is_reached a g at.0 b first last at.1 few c s.none in
    let same = square_of_way (view_of a).start b h.1.start_way in (
      b,
      record {
        joint_is = h.1;
        begun = at.0;
        whole = reach.0;
        begins = at.1;
        reach = reach.1;
        placed_joint = record { joined = h.1.joined; round = omega (arith, same, z.start_root.square); alike = n.few_times };
      },
    )

no_farther : (b f e : Spoke) (begun whole : ℕ) → IsReached b f e begun whole → whole ≤ begun
no_farther b f e begun whole r = elim r.past [
  | inl less ↦ omega (arith, less)
  | inr same ↦ omega (arith, same.0)
]

-- any point is flat or steep
some_slope : (x y : ℕ) → (t : Bool) × ((t ≡ false → y ≤ x) × (t ≡ true → x ≤ y))
some_slope x y = elim (cases_lt x y) [
  | inl less ↦ (true, ((λ h. absurd (grind (arith, h))), (λ h. omega (arith, less))))
  | inr more ↦ (false, ((λ h. more), (λ h. absurd (grind (arith, h)))))
]

free_joint : (g o v : ℕ) (j : Spoke) → 12 * square j.x j.y ≤ 12 * (o * o) + 17 * (o * g) + 6 * (g * g) → v * v ≤ square j.x j.y →
    (t : Bool) × IsNearJoint g o v t j
free_joint g o v j high low =
    let t = some_slope j.x j.y in
    (t.0, record { high = high; low = low; flat = λ h wide. t.1.0 h; steep_but = λ h wide. (let k = t.1.1 h in omega (arith, k)) })

-- the quadrant point of the arc, if it has one, is near the joint
joint_by_axis : (a : ArcShape) (g p o v limit : ℕ) (joint : Spot) (b j first last : Spoke) (h : HasReached a g p o v joint b j first last) →
    IsEnteredFrom g limit (view_of a).start (way_from g (view_of a).centre joint) j first →
    first_axis b.y ≤ h.whole → IsByAxis g (turned_by (first_axis b.y) b.quadrant) j
joint_by_axis a g p o v limit joint b j first last h from few =
    let less = no_farther b first last h.begun h.whole h.reach in
    let same : h.begun ≡ first_axis b.y = omega (arith, few, less, h.begins.soon) in
    subst (λ n. IsByAxis g (turned_by n b.quadrant) j) same (elim from [
      | inl stood ↦ stood_by_axis g b j h.begun (subst (λ (t : Spoke). Begins g b t h.begun) stood.1 h.begins) (omega (arith, few, less))
      | inr afterwards ↦ (let roll = afterwards.1 in rolled_by_axis g limit _ b j h.begun roll.0 roll.1 (subst (λ (t : Spoke). Begins g b t h.begun) roll.2 h.begins)
          (omega (arith, few, less)))
    ])

tail_order : (a : ArcShape) (g p o v limit : ℕ) (joint : Spot) (b j first last : Spoke) (h : HasReached a g p o v joint b j first last) →
    IsEnteredFrom g limit (view_of a).start (way_from g (view_of a).centre joint) j first →
    way_to last ≡ place_of (view_of a).end → 0 < last.x → 0 < outer_radius a →
    (IsByAxis g (turned_by (first_axis b.y) b.quadrant) j →
    IsWithin (leeway (pos g) a + g + spread a) (placed a j) (placed a (axis_spoke b (outer_radius a) (first_axis b.y)))) →
    Passes (λ k. laid g a.turn joint) 0 (leeway (pos g) a + g + spread a) 0 (extremes a)
tail_order a g p o v limit joint b j first last h from end_way end_out some near =
    let d = leeway (pos g) a + g + spread a in
    let about = about_joint g (view_of a).centre joint (way_from g (view_of a).centre joint) j refl h.joint_is.joint_way in
    let same = laid_placed a g joint j about in
    let round : IsRound a b last h.whole = record {
      start = start_placed a b h.joint_is.start_way;
      end = end_placed a last end_way;
      start_out = h.joint_is.joined.some;
      end_out = end_out;
      to_end = h.reach.to_end;
      turn = h.reach.turn;
      some_radius = some;
    } in
    let less = no_farther b first last h.begun h.whole h.reach in
    let at = passes_at_one a b last j h.whole d round (omega (arith, less, h.begins.soon))
    (λ few. near (joint_by_axis a g p o v limit joint b j first last h from few)) in
    subst (λ (q : Point2). Passes (λ k. q) 0 d 0 (extremes a)) (sym same) at

-- ---- circles of at least eight steps

large_way : (a : ArcShape) (g p q : ℕ) (joint : Spot) (b j first last : Spoke) (h : HasReached a g p (q + 1) (q + 1 - 4 * g / 5) joint b j first last) →
    500 ≤ g → 8 * g ≤ q + 1 →
    IsEnteredFrom g (limit_of q (2 * g / 5)) (view_of a).start (way_from g (view_of a).centre joint) j first → IsRootCeil (squared (view_of a).end) (q + 1) →
    way_to last ≡ place_of (view_of a).end → 0 < last.x →
    SomeWay (IsPair g) j last
large_way a g p q joint b j first last h step large from root end_way end_out =
    let rim = rim_of g q step large in
    let v = q + 1 - 4 * g / 5 in
    let ray = ray_of a q last root (sym (square_of_way (view_of a).end last end_way)) in
    elim from [
      | inl stood ↦ (
          let free = free_joint g (q + 1) v j h.joint_is.high h.joint_is.low in
          large_stands_way g q (2 * g / 5) (g / 2) (4 * g / 5) v p h.begun h.whole free.0 b j last rim h.placed_joint free.1 ray
          (subst (λ (t : Spoke). IsReached b t last h.begun h.whole) stood.1 h.reach))
      | inr afterwards ↦ (
          let c = cross_told b j (view_of a).start (way_from g (view_of a).centre joint) h.joint_is.start_way h.joint_is.joint_way in
          let turned : cross (way_to b) (way_to j) <ℤ pos 0 = omega (arith, ints, afterwards.0, c) in
          let roll = afterwards.1 in
          large_enters_way g q (2 * g / 5) (g / 2) (4 * g / 5) v p h.begun h.whole _ b j last roll.0 rim h.placed_joint
          (near_joint a g p (q + 1) v joint b j h.joint_is turned) ray end_out turned roll.1
          (subst (λ (t : Spoke). IsReached b t last h.begun h.whole) roll.2 h.reach))
    ]

pub large_tail : (a : ArcShape) (g p r q : ℕ) (from to joint entry : Spot) (first last : Spoke) → IsBentSetting a g p r (q + 1) from to joint entry first last →
    8 * g ≤ q + 1 → HasFirst a g from joint → HasTail a g joint to
large_tail a g p r q from to joint entry first last s large part =
    let z = s.setting in
    let n = sizes a g p r (q + 1) from to joint entry first last z in
    let rim = rim_of g q z.least large in
    let v = q + 1 - 4 * g / 5 in
    let same : q + 1 ≡ r = omega (arith, z.circle, large, z.least) in
    let inside : IsInside g (q + 1) (4 * g / 5) v = record { low = rim.l_low; high = rim.l_high; inner = rim.inner } in
    let h = has_reached a g p r (q + 1) (4 * g / 5) v from to joint entry first last s inside in
    let j = z.entered.0 in
    let root : IsRootCeil (squared (view_of a).end) (q + 1) = subst (λ t. IsRootCeil (squared (view_of a).end) t) (sym same) z.end_root in
    let way = large_way a g p q joint h.0 j first last h.1 z.least large z.entered.3 root z.end_way z.end_out in
    let short = short_of g (view_of a).centre (view_of a).end joint j last (omega (arith, z.least)) h.1.joint_is.joint_way z.end_way way in
    let bound = large_stands g q (2 * g / 5) (g / 2) (4 * g / 5) v j rim h.1.joint_is.high h.1.joint_is.low in
    let some = some_leeway g a in
    let at_joint : IsByArc a g (leeway (pos g) a) (laid g a.turn joint) =
    subst (λ (q : Spot). IsByArc a g (leeway (pos g) a) (laid g a.turn q)) (straight_ends from joint (straight_moves from joint) (omega arith))
    (part.near (straight_moves from joint)) in
    record {
      last = λ i. short_by_arc a g (leeway (pos g) a) joint to i z.arc some z.end_at short at_joint;
      beside = λ i. by_end_more a g (4 * g + spread a) (laid g a.turn (straight_at joint to (i + 1))) (omega arith)
          (inr (after_end a g i joint to (short_within a g joint to i z.end_at short)));
      few = last_short a g joint to z.end_at (near_of_short a g joint short);
      order = tail_order a g p (q + 1) v (limit_of q (2 * g / 5)) joint h.0 j first last h.1 z.entered.3 z.end_way z.end_out (omega (arith, n.end_outer, same))
          (λ by. by_axis a j (turned_by (first_axis h.0.y) h.0.quadrant) g q (2 * g / 5) (g / 2) (4 * g / 5) v
          (leeway (pos g) a + g + spread a) rim bound.below bound.above (omega (arith, same, n.end_inner)) (omega (arith, same, n.end_outer))
          (omega (arith, some)) by);
    }

-- ---- smaller ones

small_way : (a : ArcShape) (g p q o : ℕ) (joint : Spot) (b j first last : Spoke) (h : HasReached a g p o (o - 4 * g / 5) joint b j first last) → 500 ≤ g →
    9 * g ≤ 4 * o → IsSmallRay g q o →
    IsEnteredFrom g ((o + 2 * g / 5) * (o + 2 * g / 5)) (view_of a).start (way_from g (view_of a).centre joint) j first →
    IsRootCeil (squared (view_of a).end) (q + 1) → way_to last ≡ place_of (view_of a).end →
    SomeWay (IsFew g) j last
small_way a g p q o joint b j first last h step least small from root end_way =
    let size = small_size g o step least in
    let v = o - 4 * g / 5 in
    let ray = ray_of a q last root (sym (square_of_way (view_of a).end last end_way)) in
    elim from [
      | inl stood ↦ (
          let free = free_joint g o v j h.joint_is.high h.joint_is.low in
          small_stands_way g q o (2 * g / 5) (11 * g / 10) (4 * g / 5) v p h.begun h.whole free.0 b j last size small h.placed_joint free.1 ray
          (subst (λ (t : Spoke). IsReached b t last h.begun h.whole) stood.1 h.reach))
      | inr afterwards ↦ (
          let c = cross_told b j (view_of a).start (way_from g (view_of a).centre joint) h.joint_is.start_way h.joint_is.joint_way in
          let turned : cross (way_to b) (way_to j) <ℤ pos 0 = omega (arith, ints, afterwards.0, c) in
          let roll = afterwards.1 in
          small_enters_way g q o (2 * g / 5) (11 * g / 10) (4 * g / 5) v p h.begun h.whole _ b j last roll.0 size small h.placed_joint
          (near_joint a g p o v joint b j h.joint_is turned) ray turned roll.1
          (subst (λ (t : Spoke). IsReached b t last h.begun h.whole) roll.2 h.reach))
    ]

pub small_tail : (a : ArcShape) (g p q o : ℕ) (from to joint entry : Spot) (first last : Spoke) → IsBentSetting a g p (q + 1) o from to joint entry first last →
    o < 8 * g → HasFirst a g from joint → HasTail a g joint to
small_tail a g p q o from to joint entry first last s small part =
    let z = s.setting in
    let r = q + 1 in
    let n = sizes a g p r o from to joint entry first last z in
    let size = small_size g o z.least n.circle_long in
    let v = o - 4 * g / 5 in
    let wide = small_leeway a g (omega (arith, n.end_inner, n.no_less, small)) in
    let inside : IsInside g o (4 * g / 5) v = record { low = size.m_low; high = size.m_high; inner = size.inner } in
    let h = has_reached a g p r o (4 * g / 5) v from to joint entry first last s inside in
    let j = z.entered.0 in
    let ray : IsSmallRay g q o = record { out = n.no_less; near = n.no_more; small = omega (arith, n.no_less, small) } in
    let way = small_way a g p q o joint h.0 j first last h.1 z.least n.circle_long ray z.entered.3 z.end_root z.end_way in
    let by = near_of a g joint j last h.1.joint_is.joint_way z.end_way way in
    let bound = small_stands g o (2 * g / 5) (11 * g / 10) (4 * g / 5) v j size h.1.joint_is.high h.1.joint_is.low in
    let at_joint : IsByArc a g (leeway (pos g) a) (laid g a.turn joint) =
    subst (λ (q : Spot). IsByArc a g (leeway (pos g) a) (laid g a.turn q)) (straight_ends from joint (straight_moves from joint) (omega arith))
    (part.near (straight_moves from joint)) in
    record {
      last = λ k. subst (λ t. IsByArc a g t (laid g a.turn (straight_at joint to k))) (sym wide) (last_by_arc a g joint to k z.arc z.end_at by at_joint.box);
      beside = λ k. last_by_end a g joint to (k + 1) z.end_at by;
      few = last_short a g joint to z.end_at by;
      order = tail_order a g p o v ((o + 2 * g / 5) * (o + 2 * g / 5)) joint h.0 j first last h.1 z.entered.3 z.end_way z.end_out (omega (arith, n.end_outer))
          (λ near. small_by_axis a j (turned_by (first_axis h.0.y) h.0.quadrant) g o (2 * g / 5) (11 * g / 10) (4 * g / 5) v r
          (leeway (pos g) a + g + spread a) size bound.below bound.above n.end_inner n.end_outer (n.no_less, n.no_more) (omega (arith, wide)) near);
    }

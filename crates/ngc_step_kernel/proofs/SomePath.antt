-- A path that follows an arc always exists: the steps by which a course is planned, on definitions
-- only.
use Rattle.std.proofs.Common.{◌≡◌, ◌⊎◌, ℕ, ◌+◌, ◌-◌, ◌*◌, ◌/◌, ◌<◌, ◌≤◌, min, max, ℤ, pos, negsuc, unsigned_abs, inl, inr, refl, sym, subst, List, arith}
use Rattle.std.specs.Prelude.{Bool, true, false, nat_lt, int_lt, Option, Some, None}
use Rattle.std.proofs.lemmas.Bool.{cases_Bool}
use Rattle.std.proofs.lemmas.Int.{ints}
use Rattle.ngc_fixed_length.specs.Grid.{grid, distance, IsInRange}
use Rattle.ngc_fixed_length.specs.Length.{IsStep}
use Rattle.ngc_fixed_length.specs.Rounding.{nearest}
use Rattle.ngc_fixed_length.specs.declared.modes.Plane.{Plane}
use Rattle.ngc_fixed_length.specs.declared.modes.Plane.TheVariants.{XY, ZX, YZ}
use Rattle.ngc_fixed_length.specs.declared.modes.Turn.{Turn}
use Rattle.ngc_fixed_length.specs.declared.modes.Turn.TheVariants.{Counterclockwise, Clockwise}
use Rattle.ngc_fixed_length.specs.declared.points.Point3.{Point3}
use Rattle.ngc_fixed_length.specs.declared.points.StepPos.{StepPos}
use Rattle.ngc_fixed_length.proofs.GridLemmas.{grid_bound}
use Rattle.ngc_fixed_length.proofs.Nearest.{nearest_near}
use Rattle.ngc_arc_geometry.specs.ArcPath.{IsArcPath}
use Rattle.ngc_arc_geometry.specs.Radii.{IsArc}
use Rattle.ngc_arc_geometry.specs.Shape.{ArcShape, IsNear}
use Rattle.ngc_arc_geometry.proofs.ArcLemmas.{centre_u, centre_v}
use Rattle.ngc_circle_laws.specs.ArcWalk.{IsBeforeEnd}
use Rattle.ngc_circle_walk.specs.Around.{way_to}
use Rattle.ngc_circle_walk.specs.Quadrants.{quadrants_to}
use Rattle.ngc_circle_walk.specs.Rolling.{spoke_at, quadrant_at}
use Rattle.ngc_circle_walk.specs.Wheel.{is_before, IsSmall}
use Rattle.ngc_circle_walk.specs.declared.spoke.Quadrant.TheVariants.{First}
use Rattle.ngc_circle_walk.specs.declared.spoke.Spoke.{Spoke}
use Rattle.ngc_circle_walk.proofs.Wheeling.{first_quadrant, first_spoke}
use Rattle.ngc_step_kernel.specs.Course.{round_at, course_at, IsPlan}
use Rattle.ngc_step_kernel.specs.Entered.{way_cross}
use Rattle.ngc_step_kernel.specs.PlaneCourse.{laid, FollowsInPlane}
use Rattle.ngc_step_kernel.specs.Plans.{IsRoundPlan}
use Rattle.ngc_step_kernel.specs.Round.{turned, grid_point_in_plane, seen_height, round_points}
use Rattle.ngc_step_kernel.specs.Spots.{straight_moves, IsSpot}
use Rattle.ngc_step_kernel.specs.View.{squared, place_of, view_of, quadrants_left, IsView, IsNearestSpot}
use Rattle.ngc_step_kernel.specs.declared.plan.Plan.{Plan}
use Rattle.ngc_step_kernel.specs.declared.spot.Spot.{Spot}
use Rattle.ngc_step_kernel.specs.declared.view.View.{View}
use Rattle.ngc_step_kernel.proofs.ArcPaths.{arc_path}
use Rattle.ngc_step_kernel.proofs.AroundLemmas.{IsBegun, begun_of, begun_small, begun_spots, begun_apart, reach_begun, some_left}
use Rattle.ngc_step_kernel.proofs.JointPlanGiven.{bent_seen}
use Rattle.ngc_step_kernel.proofs.CourseFollows.{straight_seen, round_seen, wide_seen}
use Rattle.ngc_step_kernel.proofs.CourseLemmas.{straight_plan, bent_plan, round_plan}
use Rattle.ngc_step_kernel.proofs.EndLemmas.{end_seen, nearest_reach, unit_back}
use Rattle.ngc_step_kernel.proofs.ExistingPoints.{some_spoke, some_rolls}
use Rattle.ngc_step_kernel.proofs.JointLemmas.{reach_apart}
use Rattle.ngc_step_kernel.proofs.Settings.{some_way}
use Rattle.ngc_step_kernel.proofs.SomeEntry.{IsCircle, IsAtJoint, HasEntered, radius_root, circle_bound, some_joint, some_begin}
use Rattle.ngc_step_kernel.proofs.UnitMoves.{unit_path}
use Rattle.ngc_step_kernel.proofs.ViewLemmas.{start_radius, end_radius}

-- ---- an arc seen on the grid

turned_within : (t : Turn) (z : ℤ) (n : ℕ) → unsigned_abs z ≤ n → unsigned_abs (turned t z) ≤ n
turned_within Counterclockwise z n h = h
turned_within Clockwise z n h = omega (arith, ints, h)

view_told : (a : ArcShape) → IsArc a → IsView (view_of a)
view_told a arc = record {
  centre_u = centre_u a arc;
  centre_v = turned_within a.turn a.centre.v 93000000000 (centre_v a arc);
  start = start_radius a arc;
  end = end_radius a arc;
}

place_within : (z s : ℤ) → IsStep s → unsigned_abs z ≤ 90000000000 → unsigned_abs (nearest z s) ≤ 200000000
place_within z (pos g) step small =
    let near = nearest_near z g (omega (arith, ints, step.least)) in
    grid_bound z (pos g) (nearest z (pos g)) step (omega (arith, small)) (omega (arith, ints, near))
place_within z (negsuc n) step small = absurd (omega (arith, ints, step.least))

grid_within : (s : ℤ) (p : Point3) → IsStep s → IsNear p → IsInRange (grid s p)
grid_within s p step near = record { x = place_within p.x s step near.x; y = place_within p.y s step near.y; z = place_within p.z s step near.z }

spot_within : (plane : Plane) (t : Turn) (p : StepPos) → IsInRange p → IsSpot (grid_point_in_plane plane t p)
spot_within XY t p h = record { u = h.x; v = turned_within t p.y 200000000 h.y }
spot_within ZX t p h = record { u = h.z; v = turned_within t p.x 200000000 h.x }
spot_within YZ t p h = record { u = h.y; v = turned_within t p.z 200000000 h.z }

-- the grid points of its ends
abbrev start_spot : ℤ → ArcShape → Spot
start_spot s a = grid_point_in_plane a.plane a.turn (grid s a.start)

abbrev end_spot : ℤ → ArcShape → Spot
end_spot s a = grid_point_in_plane a.plane a.turn (grid s a.end)

-- an arc, its view about its centre, and the grid points of its ends
record IsSeen (a : ArcShape) (g : ℕ) (v : View) (from to : Spot) : Type 0 where
  arc : IsArc a
  seen : v ≡ view_of a
  view : IsView v
  least : 500 ≤ g
  most : g ≤ 50000
  from_spot : IsSpot from
  to_spot : IsSpot to
  start_at : IsNearestSpot g v.centre v.start from
  end_at : IsNearestSpot g v.centre v.end to

-- the goal: a plan whose course follows the arc
record IsCourse (a : ArcShape) (g : ℕ) (from to : Spot) (p : Plan) : Type 0 where
  plan : IsPlan p
  starts : p.start ≡ from
  ends : p.end ≡ to
  follows : FollowsInPlane a g p.moves (λ j. laid g a.turn (course_at p j))

seen_of : (s : ℤ) (a : ArcShape) → IsStep s → IsArc a →
    IsSeen a (unsigned_abs s) (view_of a) (start_spot s a) (end_spot s a)
seen_of s a step arc = record {
  arc = arc;
  seen = refl;
  view = view_told a arc;
  least = omega (arith, ints, step.least);
  most = omega (arith, ints, step.least, step.greatest);
  from_spot = spot_within a.plane a.turn (grid s a.start) (grid_within s a.start step arc.start);
  to_spot = spot_within a.plane a.turn (grid s a.end) (grid_within s a.end step arc.end);
  start_at = end_seen s a.plane a.turn a.centre a.start step;
  end_at = end_seen s a.plane a.turn a.centre a.end step;
}

-- ---- the plans

-- the spoke of a wheel that does not move
abbrev still : Spoke
still = record { quadrant = First; x = 1; y = 0 }

still_small : IsSmall still
still_small = record { x = omega arith; y = omega arith }

abbrev straight_of : ℕ → Spot → Spot → Plan
straight_of g from to = record {
  start = from;
  joint = from;
  entry = from;
  end = to;
  joined = 0;
  entered = 0;
  rolled = 0;
  moves = straight_moves from to;
  first = still;
  step = g;
  limit = 1;
}

abbrev bent_of : ℕ → Spot → Spot → Spot → Plan
bent_of g from joint to = record {
  start = from;
  joint = joint;
  entry = joint;
  end = to;
  joined = straight_moves from joint;
  entered = straight_moves from joint;
  rolled = straight_moves from joint;
  moves = straight_moves from joint + straight_moves joint to;
  first = still;
  step = g;
  limit = 1;
}

-- m of the wheel's moves from the entry
abbrev round_of : ℕ → ℕ → Spot → Spot → Spot → Spot → Spoke → ℕ → Plan
round_of g limit from joint entry to first m = record {
  start = from;
  joint = joint;
  entry = entry;
  end = to;
  joined = straight_moves from joint;
  entered = straight_moves from joint + straight_moves joint entry;
  rolled = straight_moves from joint + straight_moves joint entry + m;
  moves = straight_moves from joint + straight_moves joint entry + m + straight_moves (round_at g limit first entry m) to;
  first = first;
  step = g;
  limit = limit;
}

-- ---- a tiny arc

-- the lesser radius is below one and a half steps
abbrev is_tiny : ℕ → View → Bool
is_tiny g v = nat_lt (4 * min (squared v.start) (squared v.end)) (9 * (g * g))

straight_course : (a : ArcShape) (g : ℕ) (v : View) (from to : Spot) → IsSeen a g v from to → is_tiny g v ≡ true →
    IsCourse a g from to (straight_of g from to)
straight_course a g v from to z tiny =
    let some : 0 < g = omega (arith, z.least) in
    let at_start = nearest_reach g v.centre v.start from z.view.start z.start_at z.most in
    let at_end = nearest_reach g v.centre v.end to z.view.end z.end_at z.most in
    let near = reach_apart g v.centre from to z.least at_start at_end in
    let plan = straight_plan (straight_of g from to) refl refl refl refl refl refl (omega (arith, near)) some z.most z.from_spot z.to_spot still_small in
    record {
      plan = plan;
      starts = refl;
      ends = refl;
      follows = straight_seen a g (4 * min (squared v.start) (squared v.end)) true v from to (straight_of g from to) z.seen z.arc z.least refl (sym tiny) refl
          z.start_at z.end_at plan
          (record { starts = refl; joins = refl; enters = refl; ends = refl; joined = refl; entered = refl; rolled = refl });
    }

-- ---- what is found before the wheel moves

-- the number of quadrants from the wheel's first point to the end
abbrev left_of : View → Spoke → Spoke → Option ℕ
left_of v first last = quadrants_left (quadrants_to first.quadrant last.quadrant) (int_lt (pos 0) (way_cross v.start v.end)) (is_before first last)

record IsBegin (a : ArcShape) (g s r o limit : ℕ) (v : View) (from to joint entry : Spot) (first last : Spoke) : Type 0 where
  seen : IsSeen a g v from to
  wide : is_tiny g v ≡ false
  circle : IsCircle g s r o limit v
  joint_at : IsAtJoint g s o v joint
  enters : HasEntered g o limit v joint entry first
  end_way : way_to last ≡ place_of v.end
  end_out : 0 < last.x

begun : (a : ArcShape) (g s r o limit : ℕ) (v : View) (from to joint entry : Spot) (first last : Spoke) →
    IsBegin a g s r o limit v from to joint entry first last →
    IsBegun g o limit v.centre entry first
begun a g s r o limit v from to joint entry first last z =
    begun_of g o limit v.centre entry first z.seen.least z.seen.most z.circle.bound z.circle.limit_is z.enters.about z.enters.near

to_joint : (a : ArcShape) (g s r o limit : ℕ) (v : View) (from to joint entry : Spot) (first last : Spoke) →
    IsBegin a g s r o limit v from to joint entry first last →
    straight_moves from joint ≤ 30000000
to_joint a g s r o limit v from to joint entry first last z =
    let reach = nearest_reach g v.centre v.start from z.seen.view.start z.seen.start_at z.seen.most in
    omega (arith, reach_apart g v.centre from joint z.seen.least reach z.joint_at.near.reach)

from_joint : (a : ArcShape) (g s r o limit : ℕ) (v : View) (from to joint entry : Spot) (first last : Spoke) →
    IsBegin a g s r o limit v from to joint entry first last →
    straight_moves joint to ≤ 30000000
from_joint a g s r o limit v from to joint entry first last z =
    let reach = nearest_reach g v.centre v.end to z.seen.view.end z.seen.end_at z.seen.most in
    omega (arith, reach_apart g v.centre joint to z.seen.least z.joint_at.near.reach reach)

-- ---- without the wheel

bent_few : (m n : ℕ) → m ≤ 30000000 → n ≤ 30000000 → m + n ≤ 200000000
bent_few m n hm hn = omega (arith, hm, hn)

bent_course : (a : ArcShape) (g s r o limit : ℕ) (v : View) (from to joint entry : Spot) (first last : Spoke) →
    IsBegin a g s r o limit v from to joint entry first last →
    left_of v first last ≡ None → IsCourse a g from to (bent_of g from joint to)
bent_course a g s r o limit v from to joint entry first last z none =
    let some : 0 < g = omega (arith, z.seen.least) in
    let near = to_joint a g s r o limit v from to joint entry first last z in
    let few = bent_few (straight_moves from joint) (straight_moves joint to) near (from_joint a g s r o limit v from to joint entry first last z) in
    let plan = bent_plan (bent_of g from joint to) refl refl refl refl refl few some z.seen.most z.seen.from_spot z.joint_at.spot z.seen.to_spot still_small in
    record {
      plan = plan;
      starts = refl;
      ends = refl;
      follows = bent_seen a g s r o limit v from to joint entry first last (bent_of g from joint to) z.seen.seen (record {
        arc = z.seen.arc;
        least = z.seen.least;
        most = z.seen.most;
        wide = wide_seen a g (4 * min (squared v.start) (squared v.end)) false v z.seen.seen refl (sym z.wide) refl;
        start_root = z.circle.start_root;
        end_root = z.circle.end_root;
        circle = z.circle.circle;
        limit_is = z.circle.limit_is;
        start_at = z.seen.start_at;
        end_at = z.seen.end_at;
        moved_u = z.joint_at.moved_u;
        moved_v = z.joint_at.moved_v;
        about = z.enters.about;
        entered = z.enters.entered;
        beside = z.enters.beside;
        end_way = z.end_way;
        end_out = z.end_out;
        none = none;
        plan = plan;
        bent = record { starts = refl; joins = refl; enters = refl; ends = refl; entered = refl; rolled = refl };
      });
    }

-- ---- with the wheel

-- m of the wheel's moves are all before the end's direction, or the limit is reached
record IsLastRoll (g limit left n : ℕ) (first last : Spoke) (m : ℕ) : Type 0 where
  few : m ≤ n
  before : IsBeforeEnd (quadrant_at g limit first m) left (spoke_at g limit first m) last
  past : m < n → IsBeforeEnd (quadrant_at g limit first (m + 1)) left (spoke_at g limit first (m + 1)) last → ⊥

some_last : (g limit left n : ℕ) (first last : Spoke) → IsBeforeEnd 0 left first last → (m : ℕ) × IsLastRoll g limit left n first last m
some_last g limit left n first last before =
    let begins = subst (λ t. IsBeforeEnd t left (spoke_at g limit first 0) last) (sym (first_quadrant g limit first))
    (subst (λ (w : Spoke). IsBeforeEnd 0 left w last) (sym (first_spoke g limit first)) before) in
    let found = some_rolls g limit left first last begins n in
    (found.0, record { few = found.1; before = found.2; past = found.3 })

round_few : (j e m l n : ℕ) → n ≡ 100000000 → j ≤ 30000000 → e ≤ 30000000 → m ≤ n → l ≤ 30000000 → j + e + m + l ≤ 200000000
round_few j e m l n most hj he hm hl = omega (arith, most, hj, he, hm, hl)

rolls_of : (g limit left n k : ℕ) (first last : Spoke) (m : ℕ) → k ≡ m → IsLastRoll g limit left n first last m → IsLastRoll g limit left n first last k
rolls_of g limit left n k first last m same z = subst (λ t. IsLastRoll g limit left n first last t) (sym same) z

round_told : (g limit left n : ℕ) (from joint entry to : Spot) (first last : Spoke) (m : ℕ) → n ≡ 100000000 → IsLastRoll g limit left n first last m →
    IsRoundPlan from joint entry to first last left g limit (round_of g limit from joint entry to first m)
round_told g limit left n from joint entry to first last m most z =
    let gone = straight_moves from joint + straight_moves joint entry in
    let same : gone + m - gone ≡ m = omega arith in
    let w = rolls_of g limit left n (gone + m - gone) first last m same z in
    record {
      starts = refl;
      joins = refl;
      enters = refl;
      ends = refl;
      begins = refl;
      steps = refl;
      limits = refl;
      few = omega (arith, w.few, most);
      before = w.before;
      past = λ less. w.past (omega (arith, less, most));
    }

is_round : (a : ArcShape) (g s r o limit left n : ℕ) (v : View) (from to joint entry : Spot) (first last : Spoke) (m : ℕ) →
    IsBegin a g s r o limit v from to joint entry first last → n ≡ 100000000 → m ≤ n → IsPlan (round_of g limit from joint entry to first m)
is_round a g s r o limit left n v from to joint entry first last m z most some_rolled =
    let some : 0 < g = omega (arith, z.seen.least) in
    let b = begun a g s r o limit v from to joint entry first last z in
    let reach = nearest_reach g v.centre v.end to z.seen.view.end z.seen.end_at z.seen.most in
    let near = to_joint a g s r o limit v from to joint entry first last z in
    let few = round_few (straight_moves from joint) (straight_moves joint entry) m (straight_moves (round_at g limit first entry m) to) n most near
    (reach_begun g o limit v.centre entry joint first b z.joint_at.near.reach) some_rolled (begun_apart g o limit v.centre entry to first b reach m) in
    round_plan (round_of g limit from joint entry to first m) some z.seen.most z.seen.from_spot z.joint_at.spot z.seen.to_spot
    (begun_small g o limit v.centre entry first b) (begun_spots g o limit v.centre entry first b z.seen.view.centre_u z.seen.view.centre_v)
    refl refl m refl (round_at g limit first entry m) refl refl few

round_course : (a : ArcShape) (g s r o limit left n : ℕ) (v : View) (from to joint entry : Spot) (first last : Spoke) (m : ℕ) →
    IsBegin a g s r o limit v from to joint entry first last → left_of v first last ≡ Some left → n ≡ 100000000 → IsLastRoll g limit left n first last m →
    IsCourse a g from to (round_of g limit from joint entry to first m)
round_course a g s r o limit left n v from to joint entry first last m z counted most rolls =
    let plan = is_round a g s r o limit left n v from to joint entry first last m z most rolls.few in
    record {
      plan = plan;
      starts = refl;
      ends = refl;
      follows = round_seen a g s r o limit left v from to joint entry first last (round_of g limit from joint entry to first m) z.seen.seen (record {
        arc = z.seen.arc;
        least = z.seen.least;
        most = z.seen.most;
        wide = wide_seen a g (4 * min (squared v.start) (squared v.end)) false v z.seen.seen refl (sym z.wide) refl;
        start_root = z.circle.start_root;
        end_root = z.circle.end_root;
        circle = z.circle.circle;
        limit_is = z.circle.limit_is;
        start_at = z.seen.start_at;
        end_at = z.seen.end_at;
        moved_u = z.joint_at.moved_u;
        moved_v = z.joint_at.moved_v;
        about = z.enters.about;
        entered = z.enters.entered;
        beside = z.enters.beside;
        end_way = z.end_way;
        end_out = z.end_out;
        counted = counted;
        plan = plan;
        round = round_told g limit left n from joint entry to first last m most rolls;
      });
    }

-- ---- every arc

some_or_none : (left : Option ℕ) → (left ≡ None) ⊎ ((n : ℕ) × (left ≡ Some n))
some_or_none None = inl refl
some_or_none (Some n) = inr (n, refl)

-- with the wheel or without
begun_course : (a : ArcShape) (g s r o limit n : ℕ) (v : View) (from to joint entry : Spot) (first last : Spoke) → n ≡ 100000000 →
    IsBegin a g s r o limit v from to joint entry first last → (p : Plan) × IsCourse a g from to p
begun_course a g s r o limit n v from to joint entry first last most z =
    elim (some_or_none (left_of v first last)) [
      | inl none ↦ (bent_of g from joint to, bent_course a g s r o limit v from to joint entry first last z none)
      | inr some ↦ (
          let quadrants = quadrants_to first.quadrant last.quadrant in
          let before = some_left quadrants (int_lt (pos 0) (way_cross v.start v.end)) (is_before first last) some.0 first last refl some.1 in
          let found = some_last g limit some.0 n first last before in (
            round_of g limit from joint entry to first found.0,
            round_course a g s r o limit some.0 n v from to joint entry first last found.0 z some.1 most found.1,
          ))
    ]

circle_course : (a : ArcShape) (g s r o limit : ℕ) (v : View) (from to : Spot) → IsSeen a g v from to → is_tiny g v ≡ false → IsCircle g s r o limit v →
    (p : Plan) × IsCourse a g from to p
circle_course a g s r o limit v from to z wide c =
    let joint = some_joint g s r o limit v z.view z.least z.most c in
    let begin = some_begin g o limit v joint.0 joint.1.near c.bound z.most in
    let last = some_spoke v.end.u v.end.v in
    begun_course a g s r o limit 100000000 v from to joint.0 begin.0 begin.1 last.0 refl (record {
      seen = z;
      wide = wide;
      circle = c;
      joint_at = joint.1;
      enters = begin.2;
      end_way = last.1;
      end_out = last.2 (some_way (unsigned_abs v.end.u) (unsigned_abs v.end.v) z.view.end.some);
    })

wide_course : (a : ArcShape) (g : ℕ) (v : View) (from to : Spot) → IsSeen a g v from to → is_tiny g v ≡ false → (p : Plan) × IsCourse a g from to p
wide_course a g v from to z wide =
    let s = radius_root (squared v.start) z.view.start.bound in
    let r = radius_root (squared v.end) z.view.end.bound in
    let o = max r.0 (9 * g / 4 + 1) in
    circle_course a g s.0 r.0 o ((o + 2 * g / 5) * (o + 2 * g / 5)) v from to z wide (record {
      start_root = s.1;
      start_bound = s.2;
      end_root = r.1;
      circle = refl;
      bound = circle_bound r.0 g r.2 z.most;
      limit_is = refl;
    })

seen_course : (a : ArcShape) (g : ℕ) (v : View) (from to : Spot) → IsSeen a g v from to → (p : Plan) × IsCourse a g from to p
seen_course a g v from to z = elim (cases_Bool (is_tiny g v)) [
  | inl tiny ↦ (straight_of g from to, straight_course a g v from to z tiny)
  | inr wide ↦ wide_course a g v from to z wide
]

some_course : (s : ℤ) (a : ArcShape) → IsStep s → IsArc a → (p : Plan) × IsCourse a (unsigned_abs s) (start_spot s a) (end_spot s a) p
some_course s a step arc =
    seen_course a (unsigned_abs s) (view_of a) (start_spot s a) (end_spot s a) (seen_of s a step arc)

-- ---- with its heights

course_path : (s : ℤ) (a : ArcShape) (p : Plan) → IsStep s → IsCourse a (unsigned_abs s) (start_spot s a) (end_spot s a) p →
    (path : List StepPos) × IsArcPath s a path
course_path s a p step z =
    let low = seen_height a.plane (grid s a.start) in
    let high = seen_height a.plane (grid s a.end) in
    let n = max p.moves (distance low high) in
    let path = round_points a.plane a.turn p n low high in
    let seen = unit_path a.plane a.turn p low high z.plan in
    let unit = unit_back a.plane a.turn (grid s a.start) (grid s a.end) p.start p.end low high n path z.starts z.ends refl refl seen in
    (path, arc_path s a p a.plane a.turn low high path step refl refl refl refl z.plan z.follows refl unit)

pub some_arc_path : (s : ℤ) (a : ArcShape) → IsStep s → IsArc a → (path : List StepPos) × IsArcPath s a path
some_arc_path s a step arc = let found = some_course s a step arc in course_path s a found.0 step found.1

-- A course that turns with a wheel follows its arc.
use Rattle.std.proofs.Common.{◌≡◌, ℕ, ◌+◌, ◌-◌, ◌*◌, ◌≤◌, pos, sym, ◌∙◌, ap, subst, arith}
use Rattle.std.proofs.Math.Nat.{mul-le-mul_left}
use Rattle.ngc_fixed_length.specs.declared.points.Point2.{Point2}
use Rattle.ngc_circle_walk.specs.declared.spoke.Spoke.{Spoke}
use Rattle.ngc_circle_walk.specs.Rolling.{spoke_at}
use Rattle.ngc_arc_geometry.specs.Shape.{ArcShape}
use Rattle.ngc_arc_geometry.specs.Radii.{outer_radius}
use Rattle.ngc_arc_geometry.specs.Sector.{extremes}
use Rattle.ngc_arc_geometry.specs.ArcBand.{leeway, spread}
use Rattle.ngc_arc_geometry.specs.ArcSides.{IsByAnEnd}
use Rattle.ngc_arc_geometry.specs.ArcOrder.{Passes, GoesOn}
use Rattle.ngc_circle_laws.specs.Placed.{placed}
use Rattle.ngc_circle_laws.proofs.Followed.{Keeps}
use Rattle.ngc_circle_laws.proofs.Lifts.{passes_along}
use Rattle.ngc_step_kernel.specs.declared.plan.Plan.{Plan}
use Rattle.ngc_step_kernel.specs.declared.spot.Spot.{Spot}
use Rattle.ngc_step_kernel.specs.About.{IsAbout}
use Rattle.ngc_step_kernel.specs.Course.{IsPlan, course_at, round_at, rounded, last_of}
use Rattle.ngc_step_kernel.specs.PlaneCourse.{laid, IsByArc}
use Rattle.ngc_step_kernel.specs.Plans.{IsRoundPlan}
use Rattle.ngc_step_kernel.specs.Spots.{straight_at, straight_moves}
use Rattle.ngc_step_kernel.specs.View.{view_of, place_of}
use Rattle.ngc_step_kernel.proofs.OnRim.{about_on}
use Rattle.ngc_step_kernel.proofs.PartsFollow.{first_by_arc, first_short, by_end_more}
use Rattle.ngc_step_kernel.proofs.FirstPoints.{first_part, first_by_end}
use Rattle.ngc_step_kernel.proofs.RoundParts.{laid_placed}
use Rattle.ngc_step_kernel.proofs.Settings.{IsSetting, sizes}
use Rattle.ngc_step_kernel.proofs.CourseParts.{HasParts, passes_round}

-- the wheel's points in the plane are the spokes' positions
pub rounded_is : (g limit left : ℕ) (from joint entry to : Spot) (first last : Spoke) (p : Plan) (k : ℕ) →
    IsRoundPlan from joint entry to first last left g limit p → rounded p k ≡ round_at g limit first entry k
rounded_is g limit left from joint entry to first last p k h =
    ap (λ n. round_at n p.limit p.first p.entry k) h.steps ∙ ap (λ n. round_at g n p.first p.entry k) h.limits
    ∙ ap (λ (s : Spoke). round_at g limit s p.entry k) h.begins ∙ ap (λ (q : Spot). round_at g limit first q k) h.enters

pub laid_round : (a : ArcShape) (g limit left : ℕ) (from joint entry to : Spot) (first last : Spoke) (p : Plan) (k : ℕ) →
    IsRoundPlan from joint entry to first last left g limit p → IsAbout g (place_of (view_of a).centre) entry first →
    laid g a.turn (rounded p k) ≡ placed a (spoke_at g limit first k)
laid_round a g limit left from joint entry to first last p k h about =
    ap (λ (q : Spot). laid g a.turn q) (rounded_is g limit left from joint entry to first last p k h)
    ∙ laid_placed a g (round_at g limit first entry k) (spoke_at g limit first k) (about_on g limit (place_of (view_of a).centre) first entry k about)

-- ---- the first part, with the joint on a circle at most d farther out than the arc

pub record HasFirst (a : ArcShape) (g : ℕ) (from joint : Spot) : Type 0 where
  pub near : (k : ℕ) → IsByArc a g (leeway (pos g) a) (laid g a.turn (straight_at from joint k))
  pub beside : (k : ℕ) → IsByAnEnd a (4 * g + spread a) (laid g a.turn (straight_at from joint k))
  pub short : straight_moves from joint * g ≤ 3 * g + spread a

pub has_first : (a : ArcShape) (g p r o d : ℕ) (from to joint entry : Spot) (first last : Spoke) → IsSetting a g p r o from to joint entry first last →
    o ≤ outer_radius a + d → d ≤ g → g + d ≤ leeway (pos g) a → HasFirst a g from joint
has_first a g p r o d from to joint entry first last s out small wide =
    let n = sizes a g p r o from to joint entry first last s in
    let part = first_part a g (p + 1) o d from joint s.arc s.least s.start_root (omega (arith, n.end_inner, n.no_less)) out s.start_at s.moved_u s.moved_v in
    record {
      near = λ k. first_by_arc a g (p + 1) o d (leeway (pos g) a) from joint k part small wide;
      beside = λ k. by_end_more a (g + spread a + d) (4 * g + spread a) (laid g a.turn (straight_at from joint k)) (omega (arith, small))
          (first_by_end a g (p + 1) o d from joint k part);
      short = (let h = first_short a g (p + 1) o d from joint part in omega (arith, h, small));
    }

-- ---- all parts, if the wheel's follow the arc and the last is near the end

pub record HasRest (a : ArcShape) (g limit m left : ℕ) (to : Spot) (first : Spoke) (p : Plan) : Type 0 where
  pub keeps : Keeps a g m (spoke_at g limit first)
  pub last : (k : ℕ) → IsByArc a g (leeway (pos g) a) (laid g a.turn (straight_at (last_of p) to k))
  pub beside : (k : ℕ) → IsByAnEnd a (4 * g + spread a) (laid g a.turn (straight_at (last_of p) to (k + 1)))
  pub few : straight_moves (last_of p) to * g ≤ 5 * g
  pub long : m * g ≤ 8 * outer_radius a + 33 * g

in_parts : (a : ArcShape) (g : ℕ) (from joint : Spot) (p : Plan) → p.start ≡ from → p.joint ≡ joint → HasFirst a g from joint → (k : ℕ) →
    IsByArc a g (leeway (pos g) a) (laid g a.turn (straight_at p.start p.joint k)) ×
    IsByAnEnd a (4 * g + spread a) (laid g a.turn (straight_at p.start p.joint k))
in_parts a g from joint p hs hj h k = rw (hs, hj) (h.near k, h.beside k)

all_short : (g outer spread joined one m last moves : ℕ) → joined * g ≤ 3 * g + spread → one ≤ 1 → m * g ≤ 8 * outer + 33 * g → last * g ≤ 5 * g →
    moves ≡ joined + one + m + last → moves * g ≤ 8 * outer + 32 * spread + 64 * g
all_short g outer spread joined one m last moves a b c d e =
    let f = mul-le-mul_left g b in
    let h : moves * g ≡ (joined + one + m + last) * g = ap (λ t. t * g) e in
    omega (arith, a, c, d, f, h)

pub round_parts : (a : ArcShape) (g limit left : ℕ) (from joint entry to : Spot) (first last : Spoke) (p : Plan) → IsPlan p →
    IsRoundPlan from joint entry to first last left g limit p → IsAbout g (place_of (view_of a).centre) entry first →
    straight_moves joint entry ≤ 1 → HasFirst a g from joint → HasRest a g limit (p.rolled - p.entered) left to first p → HasParts a g p
round_parts a g limit left from joint entry to first last p plan r about beside part rest =
    let at : (k : ℕ) → laid g a.turn (rounded p k) ≡ placed a (spoke_at g limit first k) =
    λ k. laid_round a g limit left from joint entry to first last p k r about in
    record {
      plan = plan;
      first = λ k le. in_parts a g from joint p r.starts r.joins part k;
      enters = rw (r.joins, r.enters) beside;
      round = λ k le. subst (λ (q : Point2). IsByArc a g (leeway (pos g) a) q) (sym (at k)) (record {
        band = rest.keeps.band k le;
        sector = rest.keeps.sector (leeway (pos g) a + spread a) k le;
        box = rest.keeps.box k le;
      });
      onward = λ k less. subst (λ (q : Point2). GoesOn a (4 * g + spread a) q (laid g a.turn (rounded p (k + 1)))) (sym (at k)) (
          subst (λ (q : Point2). GoesOn a (4 * g + spread a) (placed a (spoke_at g limit first k)) q) (sym (at (k + 1)))
          (rest.keeps.onward (4 * g + spread a) k less));
      last = λ k le. rw r.ends (rest.last k);
      beside = λ k less. rw r.ends (rest.beside k);
      short = (
          let few : straight_moves (last_of p) p.end * g ≤ 5 * g = rw r.ends rest.few in
          let joined : p.joined * g ≤ 3 * g + spread a =
          (let h : straight_moves p.start p.joint * g ≤ 3 * g + spread a = rw (r.starts, r.joins) part.short in rw plan.joined h) in
          let one : straight_moves p.joint p.entry ≤ 1 = rw (r.joins, r.enters) beside in
          all_short g (outer_radius a) (spread a) p.joined (straight_moves p.joint p.entry) (p.rolled - p.entered)
          (straight_moves (last_of p) p.end) p.moves joined one rest.long few
          (omega (arith, plan.moves, plan.rolled, plan.entered)));
    }

pub round_order : (a : ArcShape) (g limit left : ℕ) (from joint entry to : Spot) (first last : Spoke) (p : Plan) → IsPlan p →
    IsRoundPlan from joint entry to first last left g limit p → IsAbout g (place_of (view_of a).centre) entry first →
    Keeps a g (p.rolled - p.entered) (spoke_at g limit first) →
    Passes (λ k. laid g a.turn (course_at p k)) p.moves (leeway (pos g) a + g + spread a) 0 (extremes a)
round_order a g limit left from joint entry to first last p plan r about keeps =
    passes_round a g (leeway (pos g) a + g + spread a) p (extremes a) plan
    (passes_along (λ k. placed a (spoke_at g limit first k)) (λ k. laid g a.turn (rounded p k)) (λ k. k) (p.rolled - p.entered) (p.rolled - p.entered)
    (leeway (pos g) a + g + spread a) 0 (extremes a)
    (λ k le. laid_round a g limit left from joint entry to first last p k r about) (λ j k le. le) (omega arith) keeps.order)

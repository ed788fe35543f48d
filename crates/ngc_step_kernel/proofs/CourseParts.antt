-- A course whose parts stay near an arc follows the arc.
use Rattle.std.proofs.Common.{◌≡◌, ℕ, ◌+◌, ◌-◌, ◌*◌, ◌<◌, ◌≤◌, inl, inr, ◌∙◌, ap, arith, pos, List, [], ◌∷◌}
use Rattle.std.specs.List.{All}
use Rattle.std.proofs.lemmas.Bool.{cases_lt}
use Rattle.std.proofs.lemmas.List.Elements.{All-head, All-tail}
use Rattle.ngc_fixed_length.specs.declared.points.Point2.{Point2}
use Rattle.ngc_arc_geometry.specs.Shape.{ArcShape}
use Rattle.ngc_arc_geometry.specs.Radii.{outer_radius}
use Rattle.ngc_arc_geometry.specs.Sector.{extremes}
use Rattle.ngc_arc_geometry.specs.ArcBand.{leeway, spread, IsWithin}
use Rattle.ngc_arc_geometry.specs.ArcSides.{IsByAnEnd}
use Rattle.ngc_arc_geometry.specs.ArcOrder.{Passes, GoesOn}
use Rattle.ngc_circle_laws.proofs.Lifts.{passes_along, passes_from_before}
use Rattle.ngc_step_kernel.specs.declared.plan.Plan.{Plan}
use Rattle.ngc_step_kernel.specs.declared.spot.Spot.{Spot}
use Rattle.ngc_step_kernel.specs.Course.{course_at, rounded, last_of, IsPlan}
use Rattle.ngc_step_kernel.specs.PlaneCourse.{laid, IsByArc, FollowsInPlane}
use Rattle.ngc_step_kernel.specs.Spots.{straight_at, straight_moves}
use Rattle.ngc_step_kernel.proofs.CourseLemmas.{to_joint, to_last, to_end}

pub record HasParts (a : ArcShape) (g : ℕ) (p : Plan) : Type 0 where
  pub plan : IsPlan p
  pub first : (k : ℕ) → k ≤ p.joined → IsByArc a g (leeway (pos g) a) (laid g a.turn (straight_at p.start p.joint k)) ×
      IsByAnEnd a (4 * g + spread a) (laid g a.turn (straight_at p.start p.joint k))
  pub enters : straight_moves p.joint p.entry ≤ 1
  pub round : (k : ℕ) → k ≤ p.rolled - p.entered → IsByArc a g (leeway (pos g) a) (laid g a.turn (rounded p k))
  pub onward : (k : ℕ) → k < p.rolled - p.entered → GoesOn a (4 * g + spread a) (laid g a.turn (rounded p k)) (laid g a.turn (rounded p (k + 1)))
  pub last : (k : ℕ) → k ≤ straight_moves (last_of p) p.end → IsByArc a g (leeway (pos g) a) (laid g a.turn (straight_at (last_of p) p.end k))
  pub beside : (k : ℕ) → k < straight_moves (last_of p) p.end → IsByAnEnd a (4 * g + spread a) (laid g a.turn (straight_at (last_of p) p.end (k + 1)))
  pub short : p.moves * g ≤ 8 * outer_radius a + 32 * spread a + 64 * g

-- ---- each point and each move

parts_near : (a : ArcShape) (g : ℕ) (p : Plan) (k : ℕ) → HasParts a g p → k ≤ p.moves → IsByArc a g (leeway (pos g) a) (laid g a.turn (course_at p k))
parts_near a g p k s h = elim (cases_lt p.joined k) [
  | inr first ↦ rw (to_joint p k first) (s.first k first).0
  | inl past ↦ (let entered : p.entered ≤ k = omega (arith, past, s.plan.entered, s.enters) in elim (cases_lt k p.rolled) [
    | inl round ↦ rw (to_last p k s.plan entered (omega arith)) (s.round (k - p.entered) (omega arith))
    | inr last ↦ rw (to_end p k s.plan last) (s.last (k - p.rolled) (omega (arith, h, s.plan.moves)))
  ])
]

first_goes : (a : ArcShape) (g : ℕ) (p : Plan) (k : ℕ) → HasParts a g p → k ≤ p.joined →
    GoesOn a (4 * g + spread a) (laid g a.turn (course_at p k)) (laid g a.turn (course_at p (k + 1)))
first_goes a g p k s h = rw (to_joint p k h) (inr (inl (s.first k h).1))

round_goes : (a : ArcShape) (g : ℕ) (p : Plan) (k : ℕ) → HasParts a g p → p.entered ≤ k → k < p.rolled →
    GoesOn a (4 * g + spread a) (laid g a.turn (course_at p k)) (laid g a.turn (course_at p (k + 1)))
round_goes a g p k s from to =
    let e : k + 1 - p.entered ≡ k - p.entered + 1 = omega arith in
    rw (to_last p k s.plan from (omega arith), to_last p (k + 1) s.plan (omega arith) (omega arith), e) (s.onward (k - p.entered) (omega arith))

last_goes : (a : ArcShape) (g : ℕ) (p : Plan) (k : ℕ) → HasParts a g p → p.rolled ≤ k → k < p.moves →
    GoesOn a (4 * g + spread a) (laid g a.turn (course_at p k)) (laid g a.turn (course_at p (k + 1)))
last_goes a g p k s from to =
    let e : k + 1 - p.rolled ≡ k - p.rolled + 1 = omega arith in
    rw (to_end p (k + 1) s.plan (omega arith), e) (inr (inr (s.beside (k - p.rolled) (omega (arith, s.plan.moves)))))

parts_go : (a : ArcShape) (g : ℕ) (p : Plan) (k : ℕ) → HasParts a g p → k < p.moves →
    GoesOn a (4 * g + spread a) (laid g a.turn (course_at p k)) (laid g a.turn (course_at p (k + 1)))
parts_go a g p k s h = elim (cases_lt p.joined k) [
  | inr first ↦ first_goes a g p k s first
  | inl past ↦ (let entered : p.entered ≤ k = omega (arith, past, s.plan.entered, s.enters) in elim (cases_lt k p.rolled) [
    | inl round ↦ round_goes a g p k s entered round
    | inr last ↦ last_goes a g p k s last h
  ])
]

-- ---- all of it

pub together : (a : ArcShape) (g : ℕ) (p : Plan) → HasParts a g p →
    Passes (λ k. laid g a.turn (course_at p k)) p.moves (leeway (pos g) a + g + spread a) 0 (extremes a) →
    FollowsInPlane a g p.moves (λ j. laid g a.turn (course_at p j))
together a g p s order = record {
  near = λ k le. parts_near a g p k s le;
  onward = λ k less. parts_go a g p k s less;
  order = order;
  short = s.short;
}

-- ---- the quadrant points, from the wheel's points alone

pub passes_round : (a : ArcShape) (g d : ℕ) (p : Plan) (qs : List Point2) → IsPlan p →
    Passes (λ k. laid g a.turn (rounded p k)) (p.rolled - p.entered) d 0 qs → Passes (λ k. laid g a.turn (course_at p k)) p.moves d 0 qs
passes_round a g d p qs s h =
    passes_from_before (λ k. laid g a.turn (course_at p k)) p.moves d (p.entered + 0) 0 qs (omega arith) (
    passes_along (λ k. laid g a.turn (rounded p k)) (λ k. laid g a.turn (course_at p k)) (λ k. p.entered + k) (p.rolled - p.entered) p.moves d 0 qs
    (λ k le. (let e : p.entered + k - p.entered ≡ k = omega arith in
    ap (λ (q : Spot). laid g a.turn q) (to_last p (p.entered + k) s (omega arith) (omega (arith, le, s.rolled)) ∙ ap (rounded p) e)))
    (λ j k le. omega (arith, le)) (omega (arith, s.rolled, s.moves)) h)

-- ---- the quadrant points, from one point near all of them

pub passes_at : (at : ℕ → Point2) (n d i j : ℕ) (qs : List Point2) → i ≤ j → j ≤ n → All (IsWithin d (at j)) qs → Passes at n d i qs
passes_at at n d i j [] from to near = tt
passes_at at n d i j (q ∷ qs) from to near =
    (j, from, to, All-head (IsWithin d (at j)) q qs near, passes_at at n d j j qs (omega arith) to (All-tail (IsWithin d (at j)) q qs near))

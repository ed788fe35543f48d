-- A course that follows an arc in its plane, lifted to three axes, is a path that follows the arc.
use Rattle.std.proofs.Common.{◌≡◌, ℕ, zero, suc, ◌+◌, ◌-◌, ◌*◌, ◌/◌, ◌%◌, ◌<◌, ◌≤◌, max, ◌⊎◌, inl, inr, refl, sym, ◌∙◌, ap, subst, arith, ℤ, pos, negsuc, ◌*ℤ◌}
use Rattle.std.proofs.Common.{◌≤ℤ◌, unsigned_abs, List}
use Rattle.std.proofs.lemmas.Bool.{cases_lt}
use Rattle.std.proofs.lemmas.Int.{ints}
use Rattle.std.proofs.lemmas.Nat.{div-mul-add, div-add-mod', mod_below, le-div}
use Rattle.std.proofs.Math.Nat.{mul-le-mul_left}
use Rattle.std.proofs.Math.IntN.{*ℤ_comm}
use borrow.Author.Differences.{neg_is}
use Rattle.ngc_fixed_length.specs.Grid.{grid, distance}
use Rattle.ngc_fixed_length.specs.Length.{IsStep}
use Rattle.ngc_fixed_length.specs.LinePath.{point}
use Rattle.ngc_fixed_length.specs.Places.{in_plane, height, from, cross}
use Rattle.ngc_fixed_length.specs.declared.modes.Plane.{Plane}
use Rattle.ngc_fixed_length.specs.declared.modes.Plane.TheVariants.{XY, ZX, YZ}
use Rattle.ngc_fixed_length.specs.declared.modes.Turn.{Turn}
use Rattle.ngc_fixed_length.specs.declared.modes.Turn.TheVariants.{Counterclockwise, Clockwise}
use Rattle.ngc_fixed_length.specs.declared.points.Point2.{Point2}
use Rattle.ngc_fixed_length.specs.declared.points.StepPos.{StepPos}
use Rattle.ngc_arc_geometry.specs.Shape.{ArcShape}
use Rattle.ngc_arc_geometry.specs.Radii.{outer_radius}
use Rattle.ngc_arc_geometry.specs.Sector.{turning, extremes}
use Rattle.ngc_arc_geometry.specs.Swept.{start_height, end_height}
use Rattle.ngc_arc_geometry.specs.GridPlaces.{in_nanometres, seen, height_of}
use Rattle.ngc_arc_geometry.specs.ArcBand.{leeway, spread, IsInBand}
use Rattle.ngc_arc_geometry.specs.ArcSides.{IsBetweenEnds}
use Rattle.ngc_arc_geometry.specs.ArcOrder.{Passes, GoesOn}
use Rattle.ngc_arc_geometry.specs.ArcPath.{IsArcOf}
use Rattle.ngc_arc_geometry.specs.WeakArcPath.{IsWeakArcOf}
use Rattle.ngc_circle_laws.proofs.Lifts.{passes_along, passes_from_before}
use Rattle.ngc_step_kernel.specs.declared.plan.Plan.{Plan}
use Rattle.ngc_step_kernel.specs.declared.spot.Spot.{Spot}
use Rattle.ngc_step_kernel.specs.Course.{course_at, IsPlan}
use Rattle.ngc_step_kernel.specs.Line.{line_place}
use Rattle.ngc_step_kernel.specs.PlaneCourse.{laid, IsByArc, FollowsInPlane}
use Rattle.ngc_step_kernel.specs.Round.{in_space, course_place, round_points}
use Rattle.ngc_step_kernel.specs.UnitPath.{IsUnitPath}
use Rattle.ngc_step_kernel.proofs.FollowsLine.{axis_follows}
use Rattle.ngc_step_kernel.proofs.LiftedBox.{turned_times, lifted_inside}
use Rattle.ngc_step_kernel.proofs.RoundLemmas.{point-round}
use Rattle.ngc_step_kernel.proofs.Sharing.{steps, steps-zero, steps-next, steps-within}
use Rattle.ngc_step_kernel.proofs.UnitMoves.{stay_or_go}

-- ---- a point's coordinates in the plane, and its height

seen_in : (plane : Plane) (t : Turn) (g : ℕ) (q : Spot) (h : ℤ) → in_plane plane (in_nanometres (pos g) (in_space plane t q h)) ≡ laid g t q
seen_in XY t g q h = ap (λ (v : ℤ). record { u = q.u *ℤ pos g; v = v }) (turned_times t q.v g)
seen_in ZX t g q h = ap (λ (v : ℤ). record { u = q.u *ℤ pos g; v = v }) (turned_times t q.v g)
seen_in YZ t g q h = ap (λ (v : ℤ). record { u = q.u *ℤ pos g; v = v }) (turned_times t q.v g)

high_in : (plane : Plane) (t : Turn) (q : Spot) (h : ℤ) →
    height plane (record { x = (in_space plane t q h).x; y = (in_space plane t q h).y; z = (in_space plane t q h).z }) ≡ h
high_in XY t q h = refl
high_in ZX t q h = refl
high_in YZ t q h = refl

-- the course's point j, in nanometres
abbrev laid_at : ℕ → Turn → Plan → ℕ → Point2
laid_at g t p j = laid g t (course_at p j)

pub seen_round : (g : ℕ) (a : ArcShape) (p : Plan) (n : ℕ) (low high : ℤ) (k : ℕ) → k ≤ n →
    seen (pos g) a (point (round_points a.plane a.turn p n low high) k) ≡ laid_at g a.turn p (course_place n p k)
seen_round g a p n low high k le =
    ap (λ (q : StepPos). seen (pos g) a q) (point-round a.plane a.turn p n low high k le)
    ∙ seen_in a.plane a.turn g (course_at p (course_place n p k)) (line_place n k low high)

pub high_round : (a : ArcShape) (p : Plan) (n : ℕ) (low high : ℤ) (k : ℕ) → k ≤ n →
    height_of a (point (round_points a.plane a.turn p n low high) k) ≡ line_place n k low high
high_round a p n low high k le =
    ap (λ (q : StepPos). height_of a q) (point-round a.plane a.turn p n low high k le)
    ∙ high_in a.plane a.turn (course_at p (course_place n p k)) (line_place n k low high)

-- ---- no move of the path turns back if none of the course does

cross_self : (d : Point2) → cross d d ≡ pos 0
cross_self d = omega (arith, ints, *ℤ_comm d.u d.v)

turning_none : (t : Turn) (z : ℤ) → z ≡ pos 0 → pos 0 ≤ℤ turning t z
turning_none Counterclockwise z e = omega (arith, ints, e)
turning_none Clockwise z e = omega (arith, ints, e, neg_is z)

stays_on : (a : ArcShape) (d : ℕ) (p : Point2) → GoesOn a d p p
stays_on a d p = inl (turning_none a.turn (cross (from a.centre p) (from a.centre p)) (cross_self (from a.centre p)))

goes_on : (a : ArcShape) (d n : ℕ) (f : ℕ → Point2) (i j : ℕ) → ((k : ℕ) → k < n → GoesOn a d (f k) (f (k + 1))) → j ≤ n → (j ≡ i) ⊎ (j ≡ i + 1) →
    GoesOn a d (f i) (f j)
goes_on a d n f i j on room (inl same) = rw same (stays_on a d (f i))
goes_on a d n f i j on room (inr next) = rw next (on i (omega (arith, next, room)))

-- ---- the quadrant points are passed in the same order

-- the first point of the path at which the course is at point j
abbrev first_place : ℕ → ℕ → ℕ → ℕ
first_place n m j = (2 * (j * n) + 2 * m - (n + 1)) / (2 * m)

on_place : (n m j k rest all : ℕ) → m ≤ n → all + (n + 1) ≡ 2 * (suc j * n) + 2 * m → k * (2 * m) + rest ≡ all → rest < 2 * m → steps n k m ≡ suc j
on_place n m j k rest all fits sum whole less =
    let over = 2 * (k * m) + n - suc j * (2 * n) in
    let e : 2 * (k * m) + n ≡ suc j * (2 * n) + over = omega (arith, sum, whole, less) in
    ap (λ t. t / (2 * n)) e ∙ div-mul-add (suc j) (2 * n) over (omega (arith, e, sum, whole, fits))

first_on : (n m j : ℕ) → 0 < m → m ≤ n → steps n (first_place n m j) m ≡ j
first_on n m zero some fits =
    let all = 2 * (0 * n) + 2 * m - (n + 1) in
    let e : all ≡ 0 * (2 * m) + all = omega arith in
    let none : first_place n m 0 ≡ 0 = ap (λ t. t / (2 * m)) e ∙ div-mul-add 0 (2 * m) all (omega (arith, some)) in
    ap (λ t. steps n t m) none ∙ steps-zero n m
first_on n m (suc j) some fits =
    let all = 2 * (suc j * n) + 2 * m - (n + 1) in
    on_place n m j (all / (2 * m)) (all % (2 * m)) all fits (omega (arith, some, fits)) (omega (arith, div-add-mod' all (2 * m)))
    (mod_below all (2 * m) (omega (arith, some)))

first_up : (n m i j : ℕ) → 0 < m → i ≤ j → first_place n m i ≤ first_place n m j
first_up n m i j some le =
    let less = mul-le-mul_left n le in
    let all = 2 * (i * n) + 2 * m - (n + 1) in
    let whole = div-add-mod' all (2 * m) in
    le-div (all / (2 * m)) (2 * (j * n) + 2 * m - (n + 1)) (2 * m) (omega (arith, some)) (omega (arith, whole, less))

first_room : (n m : ℕ) → 0 < m → first_place n m m ≤ n
first_room n m some =
    let all = 2 * (m * n) + 2 * m - (n + 1) in
    let whole = div-add-mod' all (2 * m) in
    elim (cases_lt n (all / (2 * m))) [
      | inl more ↦ (let p : 2 * m * suc n ≤ 2 * m * (all / (2 * m)) = mul-le-mul_left (2 * m) more in absurd (omega (arith, whole, p, some)))
      | inr fine ↦ fine
    ]

passes_shared : (f longer : ℕ → Point2) (n m d : ℕ) (qs : List Point2) → m ≤ n → ((k : ℕ) → k ≤ n → longer k ≡ f (steps n k m)) → Passes f m d 0 qs →
    Passes longer n d 0 qs
passes_shared f longer n zero d qs fits same h =
    passes_along f longer (λ j. 0) 0 n d 0 qs
    (λ j le. same 0 (omega arith) ∙ ap f (let z = steps-zero n 0 in omega (arith, z, le)))
    (λ i j le. omega arith) (omega arith) h
passes_shared f longer n (suc m) d qs fits same h =
    let room = first_room n (suc m) (omega arith) in
    passes_from_before longer n d (first_place n (suc m) 0) 0 qs (omega arith) (
    passes_along f longer (first_place n (suc m)) (suc m) n d 0 qs
    (λ j le. (let up = first_up n (suc m) j (suc m) (omega arith) le in
    same (first_place n (suc m) j) (omega (arith, up, room)) ∙ ap f (first_on n (suc m) j (omega arith) fits)))
    (λ i j le. first_up n (suc m) i j (omega arith) le) room h)

-- ---- all of it

lifts_by : (g : ℕ) (a : ArcShape) (p : Plan) (n : ℕ) (low high : ℤ) → 0 < g → low ≡ start_height (pos g) a → high ≡ end_height (pos g) a →
    n ≡ max p.moves (distance low high) →
    FollowsInPlane a g p.moves (laid_at g a.turn p) →
    IsUnitPath (grid (pos g) a.start) (grid (pos g) a.end) n (round_points a.plane a.turn p n low high) →
    IsArcOf (pos g) a n (round_points a.plane a.turn p n low high)
lifts_by g a p n low high some starts ends size follows path =
    let fits : p.moves ≤ n = omega (arith, size) in
    let room : distance low high ≤ n = omega (arith, size) in
    let there = seen_round g a p n low high in
    let near : (k : ℕ) → k ≤ n → IsByArc a g (leeway (pos g) a) (laid_at g a.turn p (course_place n p k)) =
    λ k le. follows.near (course_place n p k) (steps-within n k p.moves le fits) in
    let weak : IsWeakArcOf (pos g) a n (round_points a.plane a.turn p n low high) = record {
      count = path.count;
      starts = path.starts;
      ends = path.ends;
      unit_moves = path.unit_moves;
      inside = λ k le. rw (point-round a.plane a.turn p n low high k le)
          (lifted_inside g a (course_at p (course_place n p k)) n k low high some (near k le).box starts ends le room);
    } in
    record {
      weak = weak;
      band = λ k le. subst (λ (q : Point2). IsInBand a (leeway (pos g) a) q) (sym (there k le)) (near k le).band;
      sector = λ k le. subst (λ (q : Point2). IsBetweenEnds a (leeway (pos g) a + spread a) q) (sym (there k le)) (near k le).sector;
      order = passes_shared (laid_at g a.turn p) (λ k. seen (pos g) a (point (round_points a.plane a.turn p n low high) k)) n p.moves
          (leeway (pos g) a + g + spread a) (extremes a) fits there follows.order;
      onward = λ k less. (
          let next = steps-next n k p.moves (omega (arith, less)) fits in
          let on = goes_on a (4 * g + spread a) p.moves (laid_at g a.turn p) (course_place n p k) (course_place n p (k + 1)) follows.onward
          (steps-within n (k + 1) p.moves (omega (arith, less)) fits) (stay_or_go _ _ next.0 next.1) in
          let e = there k (omega (arith, less)) in
          let f = there (k + 1) (omega (arith, less)) in
          subst (λ (q : Point2). GoesOn a (4 * g + spread a) q (seen (pos g) a (point (round_points a.plane a.turn p n low high) (k + 1)))) (sym e) (
          subst (λ (q : Point2). GoesOn a (4 * g + spread a) (laid_at g a.turn p (course_place n p k)) q) (sym f) on));
      rises = axis_follows n g (height a.plane a.start) (height a.plane a.end) (λ k. height_of a (point (round_points a.plane a.turn p n low high) k)) some
          (λ k le. high_round a p n low high k le ∙ ap (λ (z : ℤ). line_place n k z high) starts
          ∙ ap (λ (z : ℤ). line_place n k (start_height (pos g) a) z) ends);
      short = (
          let few : n ≤ p.moves + distance low high = omega (arith, size) in
          let scaled = mul-le-mul_left g few in
          let whole : n * g ≤ distance low high * g + 8 * outer_radius a + 32 * spread a + 64 * g = omega (arith, scaled, follows.short) in
          rw (← starts, ← ends) whole);
    }

pub lifts : (s : ℤ) (a : ArcShape) (p : Plan) (n : ℕ) (low high : ℤ) → IsStep s →
    low ≡ start_height s a → high ≡ end_height s a → n ≡ max p.moves (distance low high) → IsPlan p →
    FollowsInPlane a (unsigned_abs s) p.moves (λ j. laid (unsigned_abs s) a.turn (course_at p j)) →
    IsUnitPath (grid s a.start) (grid s a.end) n (round_points a.plane a.turn p n low high) →
    IsArcOf s a n (round_points a.plane a.turn p n low high)
lifts (pos g) a p n low high step starts ends size plan follows path = lifts_by g a p n low high (omega (arith, ints, step.least)) starts ends size follows path
lifts (negsuc m) a p n low high step starts ends size plan follows path = absurd (omega (arith, ints, step.least))

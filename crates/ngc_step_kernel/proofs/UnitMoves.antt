-- A course, and the path that lifts it, lead by unit moves from start to end.
use Rattle.std.proofs.Common.{◌≡◌, ℕ, ◌+◌, ◌-◌, ◌<◌, ◌≤◌, min, max, ◌⊎◌, inl, inr, ◌∙◌, ap, arith, refl, ℤ, ◌+ℤ◌, unsigned_abs}
use Rattle.std.proofs.lemmas.Int.{ints}
use Rattle.std.proofs.lemmas.Bool.{cases_lt}
use Rattle.ngc_fixed_length.specs.declared.modes.Plane.{Plane}
use Rattle.ngc_fixed_length.specs.declared.modes.Plane.TheVariants.{XY, ZX, YZ}
use Rattle.ngc_fixed_length.specs.declared.modes.Turn.{Turn}
use Rattle.ngc_fixed_length.specs.declared.modes.Turn.TheVariants.{Counterclockwise, Clockwise}
use Rattle.ngc_fixed_length.specs.declared.points.StepPos.{StepPos}
use Rattle.ngc_fixed_length.specs.Grid.{distance}
use Rattle.ngc_fixed_length.specs.LinePath.{IsUnitMove}
use Rattle.ngc_circle_walk.specs.declared.spoke.Quadrant.{Quadrant}
use Rattle.ngc_circle_walk.specs.declared.spoke.Quadrant.TheVariants.{First, Second, Third, Fourth}
use Rattle.ngc_circle_walk.specs.declared.spoke.Roll.{Roll}
use Rattle.ngc_circle_walk.specs.declared.spoke.Roll.TheVariants.{Outward, Diagonal, Inward, Over}
use Rattle.ngc_step_kernel.specs.declared.moves.AxisMove.{AxisMove}
use Rattle.ngc_step_kernel.specs.declared.moves.AxisMove.TheVariants.{Stay}
use Rattle.ngc_step_kernel.specs.declared.plan.Plan.{Plan}
use Rattle.ngc_step_kernel.specs.declared.spot.PlaneMove.{PlaneMove}
use Rattle.ngc_step_kernel.specs.declared.spot.Spot.{Spot}
use Rattle.ngc_step_kernel.specs.Course.{course_at, wheel_move, last_of, IsPlan}
use Rattle.ngc_step_kernel.specs.Move.{steps_of}
use Rattle.ngc_step_kernel.specs.Round.{turned, in_space, round_point, round_points}
use Rattle.ngc_step_kernel.specs.Spots.{axis_towards, roll_move, spot_moved, spot_towards, straight_at, straight_moves, straight_place}
use Rattle.ngc_step_kernel.specs.UnitPath.{IsUnitPath}
use Rattle.ngc_step_kernel.proofs.CourseLemmas.{place_on, steps_small, to_joint, to_entry, to_end, on_to_joint, on_to_entry, on_to_last, on_to_end}
use Rattle.ngc_step_kernel.proofs.CourseLemmas.{course_starts, course_ends}
use Rattle.ngc_step_kernel.proofs.LineLemmas.{distance-toward, place-zero, place-all}
use Rattle.ngc_step_kernel.proofs.RoundLemmas.{length-round, point-round}
use Rattle.ngc_step_kernel.proofs.Sharing.{steps, steps-zero, steps-all, steps-next, steps-within}

-- ---- in the plane

-- the number of steps of a move, on both axes together
abbrev goes : PlaneMove → ℕ
goes m = unsigned_abs (steps_of m.u) + unsigned_abs (steps_of m.v)

at_place : (a b : ℤ) → a ≡ b +ℤ steps_of Stay → a ≡ b
at_place a b e = omega (arith, ints, e)

-- if two successive points of a straight part differ, they are one step apart
axis_goes : (a b : ℤ) (k : ℕ) → k < distance a b → 1 ≤ unsigned_abs (steps_of (axis_towards (straight_place a b k) b))
axis_goes a b k h =
    let on = place_on a b k in
    let apart = distance-toward a b (min k (distance a b)) (min (k + 1) (distance a b)) (omega arith) in
    let one : min k (distance a b) + 1 ≡ min (k + 1) (distance a b) = omega arith in
    let far : distance (straight_place a b k) (straight_place a b (k + 1)) ≡ 1 = omega (arith, apart, one) in
    let far_on : distance (straight_place a b k) (straight_place a b k +ℤ steps_of (axis_towards (straight_place a b k) b)) ≡ 1 = rw on at far in
    omega (arith, ints, far_on)

straight_goes : (p q : Spot) (k : ℕ) → k < straight_moves p q → 1 ≤ goes (spot_towards (straight_at p q k) q)
straight_goes p q k h = elim (cases_lt k (distance p.u q.u)) [
  | inl a ↦ omega (arith, axis_goes p.u q.u k a)
  | inr a ↦ omega (arith, axis_goes p.v q.v k (omega arith))
]

roll_goes : (r : Roll) (q : Quadrant) → 1 ≤ goes (roll_move r q)
roll_goes Outward First = omega (arith, ints)
roll_goes Outward Second = omega (arith, ints)
roll_goes Outward Third = omega (arith, ints)
roll_goes Outward Fourth = omega (arith, ints)
roll_goes Diagonal First = omega (arith, ints)
roll_goes Diagonal Second = omega (arith, ints)
roll_goes Diagonal Third = omega (arith, ints)
roll_goes Diagonal Fourth = omega (arith, ints)
roll_goes Inward First = omega (arith, ints)
roll_goes Inward Second = omega (arith, ints)
roll_goes Inward Third = omega (arith, ints)
roll_goes Inward Fourth = omega (arith, ints)
roll_goes Over First = omega (arith, ints)
roll_goes Over Second = omega (arith, ints)
roll_goes Over Third = omega (arith, ints)
roll_goes Over Fourth = omega (arith, ints)

pub course_goes : (p : Plan) (k : ℕ) → IsPlan p → k < p.moves → (m : PlaneMove) × (course_at p (k + 1) ≡ spot_moved (course_at p k) m) × (1 ≤ goes m)
course_goes p k s h = elim (cases_lt k p.joined) [
  | inl a ↦ (
    spot_towards (course_at p k) p.joint,
    on_to_joint p k a,
    rw (to_joint p k (omega arith)) (straight_goes p.start p.joint k (omega (arith, s.joined))),
  )
  | inr a ↦ elim (cases_lt k p.entered) [
    | inl b ↦ (
      spot_towards (course_at p k) p.entry,
      on_to_entry p k s a b,
      rw (to_entry p k s a (omega arith)) (straight_goes p.joint p.entry (k - p.joined) (omega (arith, s.entered))),
    )
    | inr b ↦ elim (cases_lt k p.rolled) [
      | inl c ↦ (wheel_move p.step p.limit p.first (k - p.entered), on_to_last p k s b c, roll_goes _ _)
      | inr c ↦ (
        spot_towards (course_at p k) p.end,
        on_to_end p k s c,
        rw (to_end p k s c) (straight_goes (last_of p) p.end (k - p.rolled) (omega (arith, s.moves))),
      )
    ]
  ]
]

-- the distance between two points from the move between them
step_apart : (a : ℤ) (m : AxisMove) → distance a (a +ℤ steps_of m) ≡ unsigned_abs (steps_of m)
step_apart a m = omega (arith, ints)

record AreNear (s t : Spot) : Type 0 where
  u : distance s.u t.u ≤ 1
  v : distance s.v t.v ≤ 1

moved_near : (s t : Spot) (m : PlaneMove) → t ≡ spot_moved s m → AreNear s t × (distance s.u t.u + distance s.v t.v ≡ goes m)
moved_near s t m e = rw e (
    let a = step_apart s.u m.u in
    let b = step_apart s.v m.v in
    (record { u = omega (arith, a, steps_small m.u); v = omega (arith, b, steps_small m.v) }, omega (arith, a, b)))

same_near : (s t : Spot) → t ≡ s → AreNear s t
same_near s t e = rw e (record { u = omega (arith, ints); v = omega (arith, ints) })

-- ---- in three axes

turned_apart : (t : Turn) (a b : ℤ) → distance (turned t a) (turned t b) ≡ distance a b
turned_apart Counterclockwise a b = refl
turned_apart Clockwise a b = omega (arith, ints)

same_place : (a b : ℤ) → a ≡ b → distance a b ≡ 0
same_place a b e = omega (arith, ints, e)

space_unit : (plane : Plane) (t : Turn) (r s : Spot) (g h : ℤ) → AreNear r s → distance g h ≤ 1 → 1 ≤ distance r.u s.u + distance r.v s.v + distance g h →
    IsUnitMove (in_space plane t r g) (in_space plane t s h)
space_unit XY t r s g h near high apart = let e = turned_apart t r.v s.v in record {
  x = near.u;
  y = omega (arith, e, near.v);
  z = high;
  moves = λ same. absurd
      (omega (
        arith,
        apart,
        e,
        same_place _ _ (ap (λ (p : StepPos). p.x) same),
        same_place _ _ (ap (λ (p : StepPos). p.y) same),
        same_place _ _ (ap (λ (p : StepPos). p.z) same),
      ));
}
space_unit ZX t r s g h near high apart = let e = turned_apart t r.v s.v in record {
  x = omega (arith, e, near.v);
  y = high;
  z = near.u;
  moves = λ same. absurd
      (omega (
        arith,
        apart,
        e,
        same_place _ _ (ap (λ (p : StepPos). p.x) same),
        same_place _ _ (ap (λ (p : StepPos). p.y) same),
        same_place _ _ (ap (λ (p : StepPos). p.z) same),
      ));
}
space_unit YZ t r s g h near high apart = let e = turned_apart t r.v s.v in record {
  x = high;
  y = near.u;
  z = omega (arith, e, near.v);
  moves = λ same. absurd
      (omega (
        arith,
        apart,
        e,
        same_place _ _ (ap (λ (p : StepPos). p.x) same),
        same_place _ _ (ap (λ (p : StepPos). p.y) same),
        same_place _ _ (ap (λ (p : StepPos). p.z) same),
      ));
}

-- the plane's part of a move of the path: one move or none, and one if the plane has as many as the
-- path
plane_part : (p : Plan) (i j : ℕ) → IsPlan p → j ≤ p.moves → (j ≡ i) ⊎ (j ≡ i + 1) →
    AreNear (course_at p i) (course_at p j) × (j ≡ i + 1 → 1 ≤ distance (course_at p i).u (course_at p j).u + distance (course_at p i).v (course_at p j).v)
plane_part p i j s h (inl same) = (same_near _ _ (ap (course_at p) same), λ e. absurd (omega (arith, same, e)))
plane_part p i j s h (inr next) =
    let m = course_goes p i s (omega (arith, next)) in
    let near = moved_near (course_at p i) (course_at p j) m.0 (ap (course_at p) next ∙ m.1) in
    (near.0, λ _. omega (arith, near.1, m.2))

pub stay_or_go : (i j : ℕ) → i ≤ j → j ≤ i + 1 → (j ≡ i) ⊎ (j ≡ i + 1)
stay_or_go i j a b = grind arith

longer : (a b : ℕ) → (max a b ≤ a) ⊎ (max a b ≤ b)
longer a b = grind arith

round_unit : (plane : Plane) (t : Turn) (p : Plan) (low high : ℤ) (n k : ℕ) → IsPlan p → n ≡ max p.moves (distance low high) → k < n →
    IsUnitMove (round_point plane t p n low high k) (round_point plane t p n low high (k + 1))
round_unit plane t p low high n k s size less =
    let d = distance low high in
    let a = steps-next n k p.moves (omega arith) (omega (arith, size)) in
    let b = steps-next n k d (omega arith) (omega (arith, size)) in
    let within : steps n (k + 1) p.moves ≤ p.moves = steps-within n (k + 1) p.moves (omega arith) (omega (arith, size)) in
    let part = plane_part p (steps n k p.moves) (steps n (k + 1) p.moves) s within (stay_or_go _ _ a.0 a.1) in
    let way = distance-toward low high (steps n k d) (steps n (k + 1) d) b.0 in
    space_unit plane t _ _ _ _ part.0 (omega (arith, way, b.1)) (elim (longer p.moves d) [
      | inl u ↦ omega (arith, part.1 (a.2 (omega (arith, size, u))))
      | inr h ↦ omega (arith, way, b.2 (omega (arith, size, h)))
    ])

cc_space : (plane : Plane) (t : Turn) (r s : Spot) (g h : ℤ) → r ≡ s → g ≡ h → in_space plane t r g ≡ in_space plane t s h
cc_space plane t r s g h a b = rw (a, b) refl

pub unit_path : (plane : Plane) (t : Turn) (p : Plan) (low high : ℤ) → IsPlan p →
    IsUnitPath (in_space plane t p.start low) (in_space plane t p.end high) (max p.moves (distance low high))
    (round_points plane t p (max p.moves (distance low high)) low high)
unit_path plane t p low high s =
    let n = max p.moves (distance low high) in
    record {
      count = length-round plane t p n low high;
      starts = point-round plane t p n low high 0 (omega arith) ∙ cc_space plane t _ _ _ _ (ap (course_at p) (steps-zero n p.moves) ∙ course_starts p)
          (place-zero n low high);
      ends = point-round plane t p n low high n (omega arith) ∙ cc_space plane t _ _ _ _
          (ap (course_at p) (steps-all n p.moves (omega arith)) ∙ course_ends p s) (place-all n low high (omega arith));
      unit_moves = λ k less. rw (point-round plane t p n low high k (omega arith), point-round plane t p n low high (k + 1) (omega arith))
          (round_unit plane t p low high n k s refl less);
    }

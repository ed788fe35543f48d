-- The quadrant points of an arc are at its outer radius, so a path with a point near everything
-- there passes them in order.
use Rattle.std.proofs.Common.{◌≡◌, ℕ, zero, suc, ◌+◌, ◌*◌, ◌≤◌, Bool, true, false, cond, filter, take, drop, ◌++◌, List, [], ◌∷◌, ℤ, pos, ◌+ℤ◌, ◌-ℤ◌}
use Rattle.std.proofs.Common.{unsigned_abs, arith, refl}
use Rattle.std.proofs.lemmas.Int.{ints}
use Rattle.ngc_fixed_length.specs.declared.modes.Turn.{Turn}
use Rattle.ngc_fixed_length.specs.declared.modes.Turn.TheVariants.{Counterclockwise, Clockwise}
use Rattle.ngc_fixed_length.specs.declared.points.Point2.{Point2}
use Rattle.ngc_arc_geometry.specs.Shape.{ArcShape}
use Rattle.ngc_arc_geometry.specs.Radii.{squared_distance, outer_radius, IsArc}
use Rattle.ngc_arc_geometry.specs.Sector.{in_sector, quadrant_points, first_quadrant, quadrants_in_turn, extremes}
use Rattle.ngc_arc_geometry.specs.ArcBand.{spread, IsWithin}
use Rattle.ngc_arc_geometry.specs.ArcOrder.{Passes}
use Rattle.ngc_arc_geometry.proofs.Squares.{square_sum}
use Rattle.ngc_step_kernel.specs.declared.spot.Spot.{Spot}
use Rattle.ngc_step_kernel.specs.PlaneCourse.{laid}
use Rattle.ngc_step_kernel.specs.Spots.{straight_at, straight_moves}
use Rattle.ngc_step_kernel.specs.View.{view_of, IsNearestSpot}
use Rattle.ngc_step_kernel.proofs.TinyArcs.{IsTiny}
use Rattle.ngc_step_kernel.proofs.TinyPoints.{tiny_place}

-- each of these points is at most r from c
abbrev pub AreInside : Point2 → ℕ → List Point2 → Type 0
AreInside c r [] = Unit {0}
AreInside c r (q ∷ qs) = (squared_distance c q ≤ r * r) × AreInside c r qs

inside_dropped : (c : Point2) (r n : ℕ) (qs : List Point2) → AreInside c r qs → AreInside c r (drop n qs)
inside_dropped c r zero qs h = h
inside_dropped c r (suc n) [] h = tt
inside_dropped c r (suc n) (q ∷ qs) h = inside_dropped c r n qs h.1

inside_taken : (c : Point2) (r n : ℕ) (qs : List Point2) → AreInside c r qs → AreInside c r (take n qs)
inside_taken c r zero qs h = tt
inside_taken c r (suc n) [] h = tt
inside_taken c r (suc n) (q ∷ qs) h = (h.0, inside_taken c r n qs h.1)

inside_both : (c : Point2) (r : ℕ) (ps qs : List Point2) → AreInside c r ps → AreInside c r qs → AreInside c r (ps ++ qs)
inside_both c r [] qs h k = k
inside_both c r (p ∷ ps) qs h k = (h.0, inside_both c r ps qs h.1 k)

inside_cond : (c : Point2) (r : ℕ) (b : Bool) (q : Point2) (qs : List Point2) → squared_distance c q ≤ r * r → AreInside c r qs →
    AreInside c r (cond b (q ∷ qs) qs)
inside_cond c r true q qs h k = (h, k)
inside_cond c r false q qs h k = k

inside_filtered : (c : Point2) (r : ℕ) (test : Point2 → Bool) (qs : List Point2) → AreInside c r qs → AreInside c r (filter test qs)
inside_filtered c r test [] h = tt
inside_filtered c r test (q ∷ qs) h = inside_cond c r (test q) q (filter test qs) h.0 (inside_filtered c r test qs h.1)

-- along u, and along v
aside_u : (c : Point2) (r : ℕ) (z : ℤ) → unsigned_abs (z -ℤ c.u) ≡ r → squared_distance c (record { u = z; v = c.v }) ≤ r * r
aside_u c r z e =
    let none : unsigned_abs (c.v -ℤ c.v) ≡ 0 = omega (arith, ints) in
    let s = square_sum (z -ℤ c.u) (c.v -ℤ c.v) in
    let t : unsigned_abs (z -ℤ c.u) * unsigned_abs (z -ℤ c.u) + unsigned_abs (c.v -ℤ c.v) * unsigned_abs (c.v -ℤ c.v) ≡ r * r + 0 * 0 = rw (e, none) refl in
    omega (arith, s, t)

aside_v : (c : Point2) (r : ℕ) (z : ℤ) → unsigned_abs (z -ℤ c.v) ≡ r → squared_distance c (record { u = c.u; v = z }) ≤ r * r
aside_v c r z e =
    let none : unsigned_abs (c.u -ℤ c.u) ≡ 0 = omega (arith, ints) in
    let s = square_sum (c.u -ℤ c.u) (z -ℤ c.v) in
    let t : unsigned_abs (c.u -ℤ c.u) * unsigned_abs (c.u -ℤ c.u) + unsigned_abs (z -ℤ c.v) * unsigned_abs (z -ℤ c.v) ≡ 0 * 0 + r * r = rw (none, e) refl in
    omega (arith, s, t)

inside_quadrants : (t : Turn) (c : Point2) (r : ℕ) → AreInside c r (quadrant_points t c (pos r))
inside_quadrants Counterclockwise c r = (
  aside_u c r (c.u +ℤ pos r) (omega (arith, ints)),
  (
    aside_v c r (c.v +ℤ pos r) (omega (arith, ints)),
    (aside_u c r (c.u -ℤ pos r) (omega (arith, ints)), (aside_v c r (c.v -ℤ pos r) (omega (arith, ints)), tt)),
  ),
)
inside_quadrants Clockwise c r = (
  aside_u c r (c.u +ℤ pos r) (omega (arith, ints)),
  (
    aside_v c r (c.v -ℤ pos r) (omega (arith, ints)),
    (aside_u c r (c.u -ℤ pos r) (omega (arith, ints)), (aside_v c r (c.v +ℤ pos r) (omega (arith, ints)), tt)),
  ),
)

-- the quadrant points of an arc are at most its outer radius from the centre
pub extremes_inside : (a : ArcShape) → AreInside a.centre (outer_radius a) (extremes a)
extremes_inside a =
    let ps = quadrant_points a.turn a.centre (pos (outer_radius a)) in
    let all = inside_quadrants a.turn a.centre (outer_radius a) in
    let n = first_quadrant a in
    inside_filtered a.centre (outer_radius a) (in_sector a) (quadrants_in_turn a)
    (inside_both a.centre (outer_radius a) (drop n ps) (take n ps) (inside_dropped a.centre (outer_radius a) n ps all)
    (inside_taken a.centre (outer_radius a) n ps all))

-- a path with a point near all points inside passes them
pub passes_at : (at : ℕ → Point2) (n d i k : ℕ) (c : Point2) (r : ℕ) (qs : List Point2) → i ≤ k → k ≤ n →
    ((x : Point2) → squared_distance c x ≤ r * r → IsWithin d (at k) x) → AreInside c r qs → Passes at n d i qs
passes_at at n d i k c r [] from to near all = tt
passes_at at n d i k c r (q ∷ qs) from to near all = (k, from, to, near q all.0, passes_at at n d k k c r qs (omega arith) to near all.1)

-- so the course of a tiny arc passes its quadrant points
pub tiny_passes : (a : ArcShape) (g : ℕ) (p e : Spot) → IsArc a → IsTiny a g → IsNearestSpot g (view_of a).centre (view_of a).start p →
    IsNearestSpot g (view_of a).centre (view_of a).end e →
    Passes (λ k. laid g a.turn (straight_at p e k)) (straight_moves p e) (5 * g + spread a) 0 (extremes a)
tiny_passes a g p e arc tiny first last =
    let h = tiny_place a g p e arc tiny first last in
    passes_at (λ k. laid g a.turn (straight_at p e k)) (straight_moves p e) (5 * g + spread a) 0 h.0 a.centre (outer_radius a) (extremes a)
    (omega arith) h.1 h.2 (extremes_inside a)

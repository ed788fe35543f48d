-- The moves of a walk, for the definitions of an arc's path.
use Rattle.std.proofs.Common.{◌≡◌, ℕ, ◌+◌, ◌-◌, ◌*◌, ◌<◌, ◌≤◌, pos, unsigned_abs, inl, List, [], ◌∷◌, sym, ◌∙◌, ap, subst, arith}
use Rattle.std.specs.Prelude.{Bool, true, false, nat_le, if◌then◌else◌}
use Rattle.ngc_fixed_length.specs.declared.points.Point2.{Point2}
use Rattle.ngc_circle_walk.specs.declared.spoke.Spoke.{Spoke}
use Rattle.ngc_circle_walk.proofs.Rays.{square_le}
use Rattle.ngc_circle_walk.proofs.QuadrantTurns.{square_around}
use Rattle.ngc_circle_walk.proofs.Band.{not_too_far, not_too_near}
use Rattle.ngc_arc_geometry.specs.Shape.{ArcShape}
use Rattle.ngc_arc_geometry.specs.Radii.{squared_distance, inner_radius, outer_radius}
use Rattle.ngc_arc_geometry.specs.Sector.{extremes}
use Rattle.ngc_arc_geometry.specs.ArcBand.{leeway, spread, IsWithin, IsInBand}
use Rattle.ngc_arc_geometry.specs.ArcSides.{IsBetweenEnds}
use Rattle.ngc_arc_geometry.specs.ArcOrder.{Passes, GoesOn}
use Rattle.ngc_circle_laws.specs.Placed.{placed}
use Rattle.ngc_circle_laws.proofs.CrossProducts.{dot_placed}
use Rattle.ngc_circle_laws.proofs.Walks.{walk_in_sector, walk_goes_on}
use Rattle.ngc_circle_laws.proofs.Circuit.{IsCircuit, below_on, above_on, walk_passes}

if_at_least : (t : Bool) (m n k : ℕ) → k ≤ m → k ≤ n → k ≤ (if t then m else n)
if_at_least true m n k hm hn = hm
if_at_least false m n k hm hn = hn

pub some_leeway : (g : ℕ) (a : ArcShape) → g ≤ leeway (pos g) a
some_leeway g a = if_at_least (nat_le (8 * g) (inner_radius a)) g (4 * g) g (omega arith) (omega arith)

-- the distance from the centre
pub square_placed : (a : ArcShape) (s : Spoke) → squared_distance a.centre (placed a s) ≡ s.x * s.x + s.y * s.y
square_placed a s = ap (λ z. unsigned_abs z) (dot_placed a s s) ∙ square_around s.quadrant s.x s.y

-- ---- the clauses, for each point and each move of a walk

pub circuit_in_band : (a : ArcShape) (g q h k l v n : ℕ) (at : ℕ → Spoke) (quadrant : ℕ → ℕ) (b e : Spoke) (begun left i w : ℕ) →
    IsCircuit a g q h k l v n at quadrant b e begun left → i ≤ n →
    g ≤ w → IsInBand a w (placed a (at i))
circuit_in_band a g q h k l v n at quadrant b e begun left i w c le some =
    let below = below_on a g q h k l v n at quadrant b e begun left i c le in
    let above = above_on a g q h k l v n at quadrant b e begun left i c le in
    let far = not_too_far g q h k l v (at i).x (at i).y (outer_radius a) c.rim below.all c.outside in
    let near = not_too_near g q h k l v (at i).x (at i).y (inner_radius a) c.rim above.all c.inside in
    let more = square_le (outer_radius a + g) (outer_radius a + w) (omega (arith, some)) in
    let less = square_le (inner_radius a - w) (inner_radius a - g) (omega (arith, some)) in
    let e = square_placed a (at i) in
    record { inner = omega (arith, near, less, e); outer = omega (arith, far, more, e) }

pub circuit_between_ends : (a : ArcShape) (g q h k l v n : ℕ) (at : ℕ → Spoke) (quadrant : ℕ → ℕ) (b e : Spoke) (begun left i d : ℕ) →
    IsCircuit a g q h k l v n at quadrant b e begun left → i ≤ n →
    IsBetweenEnds a d (placed a (at i))
circuit_between_ends a g q h k l v n at quadrant b e begun left i d w le = inl (walk_in_sector a g _ n at quadrant b e begun left i w.walk le)

pub circuit_goes_on : (a : ArcShape) (g q h k l v n : ℕ) (at : ℕ → Spoke) (quadrant : ℕ → ℕ) (b e : Spoke) (begun left i d : ℕ) →
    IsCircuit a g q h k l v n at quadrant b e begun left → i < n →
    GoesOn a d (placed a (at i)) (placed a (at (i + 1)))
circuit_goes_on a g q h k l v n at quadrant b e begun left i d w le = inl (walk_goes_on a g _ n at quadrant i w.walk.rolling le)

pub circuit_passes : (a : ArcShape) (g q h k l v n : ℕ) (at : ℕ → Spoke) (quadrant : ℕ → ℕ) (b e : Spoke) (begun left : ℕ) →
    IsCircuit a g q h k l v n at quadrant b e begun left →
    Passes (λ k. placed a (at k)) n (leeway (pos g) a + unsigned_abs (pos g) + spread a) 0 (extremes a)
circuit_passes a g q h k l v n at quadrant b e begun left w =
    let some = some_leeway g a in
    walk_passes a g q h k l v n at quadrant b e begun left (leeway (pos g) a + g + spread a) w (omega (arith, some))

-- ---- a longer path that has all these points in order, some perhaps more than once, passes the
-- same points

pub passes_along : (f longer : ℕ → Point2) (place : ℕ → ℕ) (n m d i : ℕ) (qs : List Point2) →
    ((k : ℕ) → k ≤ n → longer (place k) ≡ f k) → ((j k : ℕ) → j ≤ k → place j ≤ place k) → place n ≤ m →
    Passes f n d i qs → Passes longer m d (place i) qs
passes_along f longer place n m d i [] same order room h = tt
passes_along f longer place n m d i (q ∷ qs) same order room h =
    let up = order h.0 n h.2 in (
      place h.0,
      order i h.0 h.1,
      omega (arith, up, room),
      subst (λ (p : Point2). IsWithin d p q) (sym (same h.0 h.2)) h.3,
      passes_along f longer place n m d h.0 qs same order room h.4,
    )

-- from an earlier point on
pub passes_from_before : (f : ℕ → Point2) (n d i j : ℕ) (qs : List Point2) → j ≤ i → Passes f n d i qs → Passes f n d j qs
passes_from_before f n d i j [] le h = tt
passes_from_before f n d i j (q ∷ qs) le h = let later = h.1 in (h.0, omega (arith, le, later), h.2, h.3, h.4)

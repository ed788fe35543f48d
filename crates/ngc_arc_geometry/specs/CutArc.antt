-- The pieces of an arc that is cut. Our own.
use Rattle.std.specs.Prelude.{ℕ, ◌+◌, ◌-◌, ◌*◌, ◌<◌, nat_le, ℤ, pos, ◌+ℤ◌, ◌-ℤ◌, ◌*ℤ◌, ◌≤ℤ◌, int_le}
use Rattle.std.specs.Prelude.{int_lt, unsigned_abs, List, [], ◌∷◌, length, Bool, true, false, not}
use Rattle.std.specs.Prelude.{◌&&◌, if◌then◌else◌, IsTrue, Any}
use Rattle.std.specs.Int.{int_min, int_max}
use Rattle.ngc_fixed_length.specs.Places.{from}
use Rattle.ngc_fixed_length.specs.Signed.{same}
use Rattle.ngc_fixed_length.specs.LinePath.{point}
use Rattle.ngc_fixed_length.specs.Boxes.{grid_above, grid_below, IsIn}
use Rattle.ngc_fixed_length.specs.declared.points.Point2.{Point2}
use Rattle.ngc_fixed_length.specs.declared.points.GridBox.{GridBox}
use Rattle.ngc_fixed_length.specs.declared.points.StepPos.{StepPos}
use Rattle.ngc_arc_geometry.specs.Shape.{ArcShape, start_of, end_of}
use Rattle.ngc_arc_geometry.specs.Radii.{squared_distance, inner_radius, outer_radius, HasEvenRadii}
use Rattle.ngc_arc_geometry.specs.Sector.{in_sector, turn_from}
use Rattle.ngc_arc_geometry.specs.Swept.{margin, grid_at, start_height, end_height}
use Rattle.ngc_arc_geometry.specs.ArcPath.{IsArcPath}

-- between the radii, grown by w; there is no lower bound if the inner radius is less than w
abbrev pub is_in_band : ArcShape → ℕ → Point2 → Bool
is_in_band a w q =
    nat_le ((inner_radius a - w) * (inner_radius a - w)) (squared_distance a.centre q) &&
    nat_le (squared_distance a.centre q) ((outer_radius a + w) * (outer_radius a + w))

-- seen from the centre, both lie in the same closed quadrant
abbrev pub share_quadrant : ArcShape → Point2 → Point2 → Bool
share_quadrant a p q =
    let d = from a.centre p in let e = from a.centre q in
    int_le (pos 0) (d.u *ℤ e.u) && int_le (pos 0) (d.v *ℤ e.v)

-- the piece turns forward from p to q, by at most a quarter
abbrev pub turns_on : ArcShape → Point2 → Point2 → Bool
turns_on a p q = share_quadrant a p q && int_lt (pos 0) (turn_from a p q)

-- the direction of the arc's start lies on the short turn from p to q, but is not p's
abbrev pub passes_start : ArcShape → Point2 → Point2 → Bool
passes_start a p q =
    int_lt (pos 0) (turn_from a p (start_of a)) && int_le (pos 0) (turn_from a (start_of a) q)

-- a cut inside the sector, after at most one full turn
abbrev pub is_inner_cut : ℤ → ArcShape → Point2 → Point2 → Bool
is_inner_cut step a p q =
    is_in_band a (unsigned_abs step) q && (in_sector a q && not (passes_start a p q))

abbrev pub is_end : ArcShape → Point2 → Bool
is_end a q = same q.u (end_of a).u && same q.v (end_of a).v

-- a piece of a cut arc may lead from p to q
abbrev pub cut_follows : ℤ → ArcShape → Bool → Point2 → Point2 → Bool
cut_follows step a last p q =
    turns_on a p q && (if last then is_end a q else is_inner_cut step a p q)

-- the box of both cut points, grown by the margin, and the range of heights
abbrev pub cut_box : ℤ → ArcShape → Point2 → Point2 → GridBox
cut_box step a p q = record {
  low = grid_at a.plane (grid_above step (int_min p.u q.u -ℤ margin step a))
      (grid_above step (int_min p.v q.v -ℤ margin step a))
      (int_min (start_height step a) (end_height step a));
  high = grid_at a.plane (grid_below step (int_max p.u q.u +ℤ margin step a))
      (grid_below step (int_max p.v q.v +ℤ margin step a))
      (int_max (start_height step a) (end_height step a));
}

-- the inner radius is at least eight steps; if it is less, a piece needs the box of the whole arc
abbrev pub is_large : ℤ → ArcShape → Bool
is_large step a = nat_le (8 * unsigned_abs step) (inner_radius a)

-- ---- the law

abbrev pub IsCutChain : ℤ → ArcShape → Point2 → List Point2 → Type 0
IsCutChain step a p [] = ⊥
IsCutChain step a p (q ∷ []) = IsTrue (cut_follows step a true p q)
IsCutChain step a p (q ∷ r ∷ qs) =
    IsTrue (cut_follows step a false p q) × IsCutChain step a q (r ∷ qs)

abbrev pub cut_boxes : ℤ → ArcShape → Point2 → List Point2 → List GridBox
cut_boxes step a p [] = []
cut_boxes step a p (q ∷ qs) = cut_box step a p q ∷ cut_boxes step a q qs

-- each point of a path that follows a cut arc lies in the box of one of its pieces, if the inner
-- radius is at least eight steps
abbrev pub CoveredByCuts : Type 0
CoveredByCuts = (step : ℤ) (a : ArcShape) (cuts : List Point2) (path : List StepPos) (k : ℕ) →
    pos 1 ≤ℤ step → HasEvenRadii a → IsTrue (is_large step a) →
    IsCutChain step a (start_of a) cuts →
    IsArcPath step a path → k < length path →
    Any (λ b. IsIn b (point path k)) (cut_boxes step a (start_of a) cuts)

-- What holds of the moves of a line's cycle. Our own.
use Rattle.std.specs.Prelude.{◌≡◌, ◌-◌, ◌<◌, ℤ, ◌≤ℤ◌, ◌<ℤ◌, ◌⊎◌, Bool, true, false, List, [], ◌∷◌, Ok}
use Rattle.ngc_fixed_length.specs.Places.{in_plane, height, at_height}
use Rattle.ngc_fixed_length.specs.declared.modes.Plane.{Plane}
use Rattle.ngc_fixed_length.specs.declared.points.Point3.{Point3}
use Rattle.ngc_canned_cycles.specs.declared.cycle.CycleMove.{CycleMove}
use Rattle.ngc_canned_cycles.specs.declared.cycle.CycleMove.TheVariants.{Traverse, Feed, Dwell}
use Rattle.ngc_canned_cycles.specs.declared.cycle.CycleMove.TheVariants.{StopSpindle, StartSpindle}
use Rattle.ngc_dialect_cycles.specs.declared.line.HoleKind.{HoleKind}
use Rattle.ngc_dialect_cycles.specs.declared.line.HoleKind.TheVariants.{Drill, DrillWithDwell}
use Rattle.ngc_dialect_cycles.specs.declared.line.HoleKind.TheVariants.{Peck, BreakChips, Bore}
use Rattle.ngc_dialect_cycles.specs.declared.line.HoleKind.TheVariants.{BoreWithStop, BoreWithDwell}
use Rattle.ngc_dialect_cycles.specs.declared.line.Series.{Series}
use Rattle.ngc_dialect_cycles.specs.declared.line.CycleLine.{CycleLine}
use Rattle.ngc_dialect_cycles.specs.declared.line.Levels.{Levels}
use Rattle.ngc_dialect_cycles.specs.Levels.{levels, clear_of, hole_place}
use Rattle.ngc_dialect_cycles.specs.Moves.{end_of, cycle_moves}
use Rattle.ngc_dialect_cycles.specs.Refusals.{check}

-- P holds of each move and the point where it begins, the first one at p
abbrev pub EachFrom : (Point3 → CycleMove → Type 0) → Point3 → List CycleMove → Type 0
EachFrom P p [] = Unit {0}
EachFrom P p (m ∷ ms) = P p m × EachFrom P (end_of p m) ms

-- the point where moves that begin at p end
abbrev pub ends_at : Point3 → List CycleMove → Point3
ends_at p [] = p
ends_at p (m ∷ ms) = ends_at (end_of p m) ms

-- straight up or down
abbrev pub IsUpright : Plane → Point3 → Point3 → Type 0
IsUpright plane p q = in_plane plane p ≡ in_plane plane q

-- not down, and up to the height to which holes clear or above it
pub record IsOver (plane : Plane) (clear : ℤ) (p q : Point3) : Type 0 where
  pub high : clear ≤ℤ height plane q
  pub up : height plane p ≤ℤ height plane q

-- level, above R
pub record IsLevel (plane : Plane) (retract : ℤ) (p q : Point3) : Type 0 where
  pub high : retract <ℤ height plane q
  pub level : height plane p ≡ height plane q

-- no motion ends below the bottom; a feed is upright; a traverse is upright, goes over the holes, or
-- is level above R
abbrev pub IsSafe : Plane → Levels → Point3 → CycleMove → Type 0
IsSafe plane v p (Traverse q) =
    (v.bottom ≤ℤ height plane q) × (IsUpright plane p q ⊎ (IsOver plane v.clear p q ⊎ IsLevel plane v.retract p q))
IsSafe plane v p (Feed q) = (v.bottom ≤ℤ height plane q) × IsUpright plane p q
IsSafe plane v p (Dwell t) = Unit {0}
IsSafe plane v p StopSpindle = Unit {0}
IsSafe plane v p StartSpindle = Unit {0}

abbrev pub MovesAreSafe : Type 0
MovesAreSafe = (s : Series) (l : CycleLine) → check s l ≡ Ok tt →
    EachFrom (IsSafe l.plane (levels s l)) l.place (cycle_moves s l)

-- the last hole is left at the height to which holes clear
abbrev pub EndsAtClear : Type 0
EndsAtClear = (s : Series) (l : CycleLine) → 0 < l.repeats →
    ends_at l.place (cycle_moves s l)
    ≡ at_height l.plane (hole_place l (l.repeats - 1)) (clear_of s l)

-- the cycles that drill: G73, G81, G82, G83
abbrev pub drills : HoleKind → Bool
drills Drill = true
drills (DrillWithDwell t) = true
drills (Peck p) = true
drills (BreakChips p) = true
drills Bore = false
drills (BoreWithStop t) = false
drills (BoreWithDwell t) = false

-- a feed doesn't go up
abbrev pub GoesDown : Plane → Point3 → CycleMove → Type 0
GoesDown plane p (Feed q) = height plane q ≤ℤ height plane p
GoesDown plane p (Traverse q) = Unit {0}
GoesDown plane p (Dwell t) = Unit {0}
GoesDown plane p StopSpindle = Unit {0}
GoesDown plane p StartSpindle = Unit {0}

abbrev pub FeedsGoDown : Type 0
FeedsGoDown = (s : Series) (l : CycleLine) → check s l ≡ Ok tt → drills s.kind ≡ true →
    EachFrom (GoesDown l.plane) l.place (cycle_moves s l)

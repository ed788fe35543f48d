-- The order of a motion's pieces. Our own.
use Rattle.std.specs.Prelude.{ℕ, ◌==◌, nat_lt, ℤ, List, [], ◌∷◌, length, Bool, true, false, not}
use Rattle.std.specs.Prelude.{◌&&◌, ◌||◌, if◌then◌else◌, IsTrue}
use Rattle.ngc_fixed_length.specs.declared.points.Point2.{Point2}
use Rattle.ngc_arc_geometry.specs.Shape.{ArcShape}
use Rattle.ngc_arc_geometry.specs.Shape as shapes
use Rattle.ngc_arc_geometry.specs.CutArc.{cut_follows, is_end}
use Rattle.ngc_commands.specs.declared.movement.Way.{Way}
use Rattle.ngc_commands.specs.declared.movement.Way.TheVariants.{Line, Arc}
use Rattle.ngc_certificate_text.specs.declared.piece.Cut.{Cut}
use Rattle.ngc_certificate_text.specs.declared.piece.Cut.TheVariants.{Part, Place}
use Rattle.ngc_certificate.specs.declared.stretch.Stretch.{Stretch}
use Rattle.ngc_certificate_text.specs.Certificate.{WHOLE}

-- the cut at which the first piece begins
abbrev pub first_cut : Way → Cut
first_cut (Line b e) = Part 0
first_cut (Arc a) = Place (shapes.start_of a)

-- a cut as parts of a line
abbrev pub part_of : Cut → ℕ
part_of (Part t) = t
part_of (Place q) = 0

-- a cut as a point of an arc's plane
abbrev pub place_of : ArcShape → Cut → Point2
place_of a (Part t) = shapes.start_of a
place_of a (Place q) = q

-- a line's cuts rise up to the whole line
abbrev pub line_follows : Bool → ℕ → ℕ → Bool
line_follows last s t = nat_lt s t && (not last || t == WHOLE)

-- an arc in one piece ends at its end; each piece of a cut arc follows the last cut
abbrev pub arc_follows : ℤ → ArcShape → Stretch → Point2 → Bool
arc_follows step a s q =
    if s.several then cut_follows step a s.last (place_of a s.begin) q else is_end a q

-- the piece that ends at this cut is of the motion's kind, and follows the one before it
abbrev pub follows : ℤ → Way → Stretch → Cut → Bool
follows step (Line b e) s (Part t) = line_follows s.last (part_of s.begin) t
follows step (Line b e) s (Place q) = false
follows step (Arc a) s (Place q) = arc_follows step a s q
follows step (Arc a) s (Part t) = false

-- ---- the whole chain

abbrev pub stretch : Bool → Bool → Cut → Stretch
stretch several last begin = record { begin = begin; several = several; last = last }

abbrev pub ChainFrom : ℤ → Way → Bool → Cut → List Cut → Type 0
ChainFrom step w several begin [] = ⊥
ChainFrom step w several begin (cut ∷ []) = IsTrue (follows step w (stretch several true begin) cut)
ChainFrom step w several begin (cut ∷ next ∷ cuts) =
    IsTrue (follows step w (stretch several false begin) cut) ×
    ChainFrom step w several cut (next ∷ cuts)

abbrev pub are_several : {A : Type 0} → List A → Bool
are_several xs = nat_lt 1 (length xs)

abbrev pub IsChain : ℤ → Way → List Cut → Type 0
IsChain step w cuts = ChainFrom step w (are_several cuts) (first_cut w) cuts

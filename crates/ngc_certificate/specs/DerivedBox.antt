-- The smallest box that a piece of a motion needs. Our own.
use Rattle.std.specs.Prelude.{◌≡◌, ℕ, ℤ, pos, ◌+ℤ◌, ◌-ℤ◌, ◌*ℤ◌, List, [], ◌∷◌, map, Bool, true}
use Rattle.std.specs.Prelude.{false, ◌&&◌, if◌then◌else◌}
use Rattle.ngc_fixed_length.specs.Grid.{grid}
use Rattle.std.specs.Int.{int_min, int_max}
use Rattle.ngc_fixed_length.specs.Boxes.{grid_above, grid_below, box_of, common_box}
use Rattle.ngc_fixed_length.specs.declared.points.Point3.{Point3}
use Rattle.ngc_fixed_length.specs.declared.points.GridBox.{GridBox}
use Rattle.ngc_fixed_length.specs.declared.points.Point2.{Point2}
use Rattle.ngc_arc_geometry.specs.Shape.{ArcShape}
use Rattle.ngc_arc_geometry.specs.Swept.{swept_box}
use Rattle.ngc_arc_geometry.specs.CutArc.{cut_box, is_large}
use Rattle.ngc_commands.specs.declared.movement.Way.{Way}
use Rattle.ngc_commands.specs.declared.movement.Way.TheVariants.{Line, Arc}
use Rattle.ngc_certificate_text.specs.declared.piece.Cut.{Cut}
use Rattle.ngc_certificate_text.specs.declared.piece.Piece.{Piece}
use Rattle.ngc_certificate.specs.declared.stretch.Stretch.{Stretch}
use Rattle.ngc_certificate_text.specs.Certificate.{WHOLE}
use Rattle.ngc_certificate.specs.Chain.{part_of, place_of, first_cut, stretch, are_several}

-- the point after t parts of the line from b to e, in parts of a nanometre
abbrev pub cut_at : ℤ → ℤ → ℕ → ℤ
cut_at b e t = (b *ℤ pos WHOLE) +ℤ ((e -ℤ b) *ℤ pos t)

-- the first and the last grid point within a step of the line between two cuts
abbrev pub low_between : ℤ → ℤ → ℤ → ℕ → ℕ → ℤ
low_between step b e s t =
    grid_above (step *ℤ pos WHOLE) (int_min (cut_at b e s) (cut_at b e t) -ℤ (step *ℤ pos WHOLE))

abbrev pub high_between : ℤ → ℤ → ℤ → ℕ → ℕ → ℤ
high_between step b e s t =
    grid_below (step *ℤ pos WHOLE) (int_max (cut_at b e s) (cut_at b e t) +ℤ (step *ℤ pos WHOLE))

abbrev pub grown_box : ℤ → Point3 → Point3 → ℕ → ℕ → GridBox
grown_box step b e s t = record {
  low = record {
    x = low_between step b.x e.x s t;
    y = low_between step b.y e.y s t;
    z = low_between step b.z e.z s t;
  };
  high = record {
    x = high_between step b.x e.x s t;
    y = high_between step b.y e.y s t;
    z = high_between step b.z e.z s t;
  };
}

-- the same, limited to the box of the line's grid ends
abbrev pub line_box : ℤ → Point3 → Point3 → ℕ → ℕ → GridBox
line_box step b e s t = common_box (grown_box step b e s t) (box_of (grid step b) (grid step e))

-- an arc in one piece needs its swept box; so does each piece if the inner radius is below eight
-- steps; otherwise a piece needs the box about its two cuts
abbrev pub arc_box : ℤ → ArcShape → Stretch → Point2 → GridBox
arc_box step a s q =
    if s.several && is_large step a then cut_box step a (place_of a s.begin) q else swept_box step a

abbrev pub derived_box : ℤ → Way → Stretch → Cut → GridBox
derived_box step (Line b e) s cut = line_box step b e (part_of s.begin) (part_of cut)
derived_box step (Arc a) s cut = arc_box step a s (place_of a cut)

-- the boxes of all pieces
abbrev pub boxes_from : ℤ → Way → Bool → Cut → List Cut → List GridBox
boxes_from step w several begin [] = []
boxes_from step w several begin (cut ∷ []) =
    derived_box step w (stretch several true begin) cut ∷ []
boxes_from step w several begin (cut ∷ next ∷ cuts) =
    derived_box step w (stretch several false begin) cut
    ∷ boxes_from step w several cut (next ∷ cuts)

abbrev pub derived_boxes : ℤ → Way → List Cut → List GridBox
derived_boxes step w cuts = boxes_from step w (are_several cuts) (first_cut w) cuts

-- the box of each piece is its derived box
abbrev pub HaveDerivedBoxes : ℤ → Way → List Piece → Type 0
HaveDerivedBoxes step w pieces = map (λ (p : Piece). p.bounds) pieces
    ≡ derived_boxes step w (map (λ (p : Piece). p.end) pieces)

-- Boxes of steps in the crate's own form, which may extend beyond the grid points, and the state of
-- its loop. Our own.
use Rattle.std.specs.Prelude.{ℕ, ◌≤◌, ℤ, FitsSigned, List, [], ◌∷◌, Option, None, Bool}
use Rattle.std.specs.Int.{w32}
use Rattle.ngc_fixed_length.specs.Grid.{grid}
use Rattle.ngc_fixed_length.specs.Boxes.{box_of}
use Rattle.ngc_fixed_length.specs.declared.points.StepPos.{StepPos}
use Rattle.ngc_fixed_length.specs.declared.points.Point3.{Point3}
use Rattle.ngc_fixed_length.specs.declared.points.GridBox.{GridBox}
use Rattle.ngc_arc_geometry.specs.Swept.{swept_box}
use Rattle.ngc_commands.specs.declared.movement.Way.{Way}
use Rattle.ngc_commands.specs.declared.movement.Way.TheVariants.{Line, Arc}
use Rattle.ngc_machine_files.specs.declared.tools.Tool.{Tool}
use Rattle.ngc_machine_files.specs.Machine.{MachineFile}
use Rattle.ngc_certificate_text.specs.Certificate.{WHOLE}
use Rattle.ngc_certificate_text.specs.declared.piece.Cut.{Cut}
use Rattle.ngc_certificate_text.specs.declared.piece.Piece.{Piece}
use Rattle.ngc_certificate.specs.declared.fault.PieceRefusal.{PieceRefusal}
use Rattle.ngc_certificate.specs.Chain.{are_several, first_cut}
use Rattle.ngc_certificate.specs.DerivedBox.{grown_box}
use Rattle.ngc_certificate.specs.PieceFault.{fault_from}
use Rattle.ngc_certificate.specs.declared.bounds.Corner.{Corner}
use Rattle.ngc_certificate.specs.declared.bounds.Bounds.{Bounds}
use Rattle.ngc_certificate.specs.declared.cuts.Cuts.{Cuts}

abbrev pub corner_of : Corner → StepPos
corner_of c = record { x = c.x; y = c.y; z = c.z }

abbrev pub bounds_of : Bounds → GridBox
bounds_of b = record { low = corner_of b.low; high = corner_of b.high }

-- a corner whose coordinates fit in 32 bits
pub record IsNarrow (c : Corner) : Type 0 where
  pub x : FitsSigned w32 c.x
  pub y : FitsSigned w32 c.y
  pub z : FitsSigned w32 c.z

-- both cuts are on the line
pub record IsOnLine (cuts : Cuts) : Type 0 where
  pub from : cuts.from ≤ WHOLE
  pub to : cuts.to ≤ WHOLE

-- the grid points within a step of the line between two cuts
abbrev pub box_grown : ℤ → Point3 → Point3 → Cuts → GridBox
box_grown step b e cuts = grown_box step b e cuts.from cuts.to

-- the box of a motion in one piece
abbrev pub whole_box : ℤ → Way → GridBox
whole_box step (Line b e) = box_of (grid step b) (grid step e)
whole_box step (Arc a) = swept_box step a

-- the first refusal of the remaining pieces
abbrev pub rest_fault : MachineFile → Option Tool → Way → Bool → ℕ → Cut → List Piece →
    Option PieceRefusal
rest_fault machine tool w several j begin [] = None
rest_fault machine tool w several j begin (p ∷ ps) =
    fault_from machine tool w several j begin (p ∷ ps)

-- the same for all of them, if there are any
abbrev pub fault_of_some : MachineFile → Option Tool → Way → List Piece → Option PieceRefusal
fault_of_some machine tool w pieces =
    rest_fault machine tool w (are_several pieces) 0 (first_cut w) pieces

-- The first refusal of a piece, and of the pieces of a motion. Our own.
use Rattle.std.specs.Prelude.{ℕ, ◌+◌, List, [], ◌∷◌, Option, Some, None, option_map, Bool, true}
use Rattle.std.specs.Prelude.{false, not, IsTrue, if◌then◌else◌}
use Rattle.std.specs.List.{list_all}
use Rattle.ngc_fixed_length.specs.declared.points.StepPos.{StepPos}
use Rattle.ngc_fixed_length.specs.Boxes.{holds_box, only}
use Rattle.ngc_machine_files.specs.declared.tools.Tool.{Tool}
use Rattle.ngc_machine_files.specs.Machine.{MachineFile}
use Rattle.ngc_commands.specs.declared.movement.Way.{Way}
use Rattle.ngc_collision.specs.Body.{clears, first_met, is_in_travel}
use Rattle.ngc_certificate_text.specs.declared.piece.Cut.{Cut}
use Rattle.ngc_certificate_text.specs.declared.piece.Piece.{Piece}
use Rattle.ngc_certificate.specs.declared.stretch.Stretch.{Stretch}
use Rattle.ngc_certificate.specs.declared.fault.PieceFault.{PieceFault}
use Rattle.ngc_certificate.specs.declared.fault.PieceRefusal.{PieceRefusal}
use Rattle.ngc_certificate.specs.declared.fault.PieceFault.TheVariants.{Chain, NotCovered}
use Rattle.ngc_certificate.specs.declared.fault.PieceFault.TheVariants.{OutsideTravel, MeetsFixture}
use Rattle.ngc_certificate.specs.Chain.{follows, stretch, first_cut, are_several}
use Rattle.ngc_certificate.specs.DerivedBox.{derived_box}

-- a piece in a motion with this tool mounted
pub record IsPieceValid (machine : MachineFile) (tool : Option Tool) (w : Way) (s : Stretch)
    (p : Piece) : Type 0 where
  pub chain : IsTrue (follows machine.step w s p.end)
  pub covers : IsTrue (holds_box p.bounds (derived_box machine.step w s p.end))
  pub travel : IsTrue (is_in_travel machine p.bounds)
  pub clear : IsTrue (list_all (clears machine.step tool p.bounds) machine.fixtures)

abbrev pub piece_fault : MachineFile → Option Tool → Way → Stretch → Piece → Option PieceFault
piece_fault machine tool w s p =
    if not (follows machine.step w s p.end) then Some Chain
    else (if not (holds_box p.bounds (derived_box machine.step w s p.end)) then Some NotCovered
    else (if not (is_in_travel machine p.bounds) then Some OutsideTravel
    else option_map MeetsFixture (first_met machine tool p.bounds)))

-- the lowest fixture that the tool's body meets at a position
abbrev pub place_fault : MachineFile → Option Tool → StepPos → Option ℕ
place_fault machine tool p = first_met machine tool (only p)

-- ---- all pieces of a motion

abbrev pub AreValidFrom : MachineFile → Option Tool → Way → Bool → Cut → List Piece → Type 0
AreValidFrom machine tool w several begin [] = ⊥
AreValidFrom machine tool w several begin (p ∷ []) =
    IsPieceValid machine tool w (stretch several true begin) p
AreValidFrom machine tool w several begin (p ∷ q ∷ ps) =
    IsPieceValid machine tool w (stretch several false begin) p ×
    AreValidFrom machine tool w several p.end (q ∷ ps)

abbrev pub ArePiecesValid : MachineFile → Option Tool → Way → List Piece → Type 0
ArePiecesValid machine tool w pieces =
    AreValidFrom machine tool w (are_several pieces) (first_cut w) pieces

-- a piece's number and its refusal
abbrev pub at_piece : ℕ → PieceFault → PieceRefusal
at_piece j fault = record { piece = j; fault = fault }

infixl 10 ◌or◌
abbrev pub ◌or◌ : {A : Type 0} → Option A → Option A → Option A
(Some x) or later = Some x
None or later = later

abbrev pub fault_from : MachineFile → Option Tool → Way → Bool → ℕ → Cut → List Piece →
    Option PieceRefusal
fault_from machine tool w several j begin [] = Some (at_piece j Chain)
fault_from machine tool w several j begin (p ∷ []) =
    option_map (at_piece j) (piece_fault machine tool w (stretch several true begin) p)
fault_from machine tool w several j begin (p ∷ q ∷ ps) =
    option_map (at_piece j) (piece_fault machine tool w (stretch several false begin) p)
    or fault_from machine tool w several (j + 1) p.end (q ∷ ps)

abbrev pub pieces_fault : MachineFile → Option Tool → Way → List Piece → Option PieceRefusal
pieces_fault machine tool w pieces =
    fault_from machine tool w (are_several pieces) 0 (first_cut w) pieces

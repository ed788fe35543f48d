-- There is a result for all commands.
use Rattle.std.proofs.Common.{◌≡◌, ℕ, ◌+◌, refl, List, [], ◌∷◌, Some, None, Ok, Bool, true, false}
use Rattle.std.specs.Prelude.{Option, Result}
use Rattle.ngc_fixed_length.specs.Grid.{grid}
use Rattle.ngc_fixed_length.specs.declared.points.Point3.{Point3}
use Rattle.ngc_arc_geometry.specs.Shape.{ArcShape}
use Rattle.ngc_machine_files.specs.Machine.{MachineFile}
use Rattle.ngc_machine_files.specs.declared.tools.Tool.{Tool}
use Rattle.ngc_commands.specs.declared.movement.Way.{Way}
use Rattle.ngc_commands.specs.declared.movement.Way.TheVariants.{Line, Arc}
use Rattle.ngc_commands.specs.declared.command.Action.{Action}
use Rattle.ngc_commands.specs.declared.command.Action.TheVariants.{Move, Mount}
use Rattle.ngc_commands.specs.Movement.{end_of}
use Rattle.ngc_certificate_text.specs.declared.piece.Piece.{Piece}
use Rattle.ngc_certificate_text.specs.Certificate.{Entry}
use Rattle.ngc_certificate.specs.PieceFault.{place_fault}
use Rattle.ngc_certificate.specs.Made.{pieces_of, cleared, with_pieces, unless_met, MayHavePieces, MayFindPieces, IsMadeFrom}
use Rattle.ngc_certificate.specs.Making.{is_clear_in}
use Rattle.ngc_certificate.specs.Traverses.{most_pieces}
use Rattle.ngc_certificate.proofs.Cleared.{whole_stands, none_stands}

whole_or_none : (machine : MachineFile) (most : ℕ) (tool : Option Tool) (a : ArcShape) (clear : Bool) → is_clear_in machine tool (Arc a) 1 ≡ clear →
    (found : Option (List Piece)) × MayHavePieces machine most tool a found
whole_or_none machine most tool a true e = (Some (pieces_of machine.step (Arc a) 1), whole_stands machine most tool a (pieces_of machine.step (Arc a) 1) refl e)
whole_or_none machine most tool a false e = (None, none_stands machine most tool a e)

pub some_found : (machine : MachineFile) (most : ℕ) (tool : Option Tool) (w : Way) → (found : Option (List Piece)) × MayFindPieces machine most tool w found
some_found machine most tool (Line b e) = (cleared machine most tool (Line b e), refl)
some_found machine most tool (Arc a) = whole_or_none machine most tool a (is_clear_in machine tool (Arc a) 1) refl

pub some_made : (machine : MachineFile) (most k : ℕ) (tool : Option Tool) (place : Point3) (actions : List Action) →
    (says : Result (List Entry) ℕ) × IsMadeFrom machine most k tool place actions says
some_made machine most k tool place [] = (Ok [], refl)
some_made machine most k tool place (Mount new ∷ actions) =
    let rest = some_made machine most (k + 1) new place actions in
    (unless_met (place_fault machine new (grid machine.step place)) k rest.0, (rest.0, rest.1, refl))
some_made machine most k tool place (Move m ∷ actions) =
    let found = some_found machine (most_pieces machine most m.pace) tool m.way in
    let rest = some_made machine most (k + 1) tool (end_of m.way) actions in
    (with_pieces k found.0 rest.0, (found.0, rest.0, found.1, rest.1, refl))
some_made machine most k tool place (_ ∷ actions) = some_made machine most (k + 1) tool place actions

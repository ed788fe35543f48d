-- There is no refusal if and only if all is valid. Our own.
use Rattle.std.specs.Prelude.{◌≡◌, List, Option, None, ◌↔◌}
use Rattle.ngc_fixed_length.specs.declared.points.StepPos.{StepPos}
use Rattle.ngc_machine_files.specs.declared.tools.Tool.{Tool}
use Rattle.ngc_machine_files.specs.Machine.{MachineFile}
use Rattle.ngc_commands.specs.declared.movement.Way.{Way}
use Rattle.ngc_collision.specs.Body.{IsClearAt}
use Rattle.ngc_certificate_text.specs.declared.piece.Piece.{Piece}
use Rattle.ngc_certificate.specs.PieceFault.{ArePiecesValid, pieces_fault, place_fault}

abbrev pub NoPiecesFaultIsValid : Type 0
NoPiecesFaultIsValid =
    (machine : MachineFile) (tool : Option Tool) (w : Way) (pieces : List Piece) →
    (pieces_fault machine tool w pieces ≡ None) ↔ ArePiecesValid machine tool w pieces

abbrev pub NoPlaceFaultIsClear : Type 0
NoPlaceFaultIsClear = (machine : MachineFile) (tool : Option Tool) (p : StepPos) →
    (place_fault machine tool p ≡ None) ↔ IsClearAt machine tool p

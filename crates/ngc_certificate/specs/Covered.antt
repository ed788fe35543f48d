-- Each point of a motion's path is in the derived box of one of its pieces. Our own.
use Rattle.std.specs.Prelude.{ℕ, ◌<◌, ℤ, pos, ◌≤ℤ◌, List, length, Any, Option}
use Rattle.ngc_fixed_length.specs.declared.points.StepPos.{StepPos}
use Rattle.ngc_fixed_length.specs.LinePath.{point}
use Rattle.ngc_fixed_length.specs.Boxes.{IsIn}
use Rattle.ngc_commands.specs.declared.movement.Way.{Way}
use Rattle.ngc_commands.specs.Sequence.{IsEvenIfArc}
use Rattle.ngc_commands.specs.ProgramPath.{IsPathOf}
use Rattle.ngc_certificate_text.specs.declared.piece.Cut.{Cut}
use Rattle.ngc_certificate_text.specs.declared.piece.Piece.{Piece}
use Rattle.ngc_collision.specs.Body.{IsSafe}
use Rattle.ngc_machine_files.specs.Machine.{MachineFile}
use Rattle.ngc_machine_files.specs.declared.tools.Tool.{Tool}
use Rattle.ngc_certificate.specs.Chain.{IsChain}
use Rattle.ngc_certificate.specs.PieceFault.{ArePiecesValid}
use Rattle.ngc_certificate.specs.DerivedBox.{derived_boxes}

abbrev pub Covered : Type 0
Covered = (step : ℤ) (w : Way) (cuts : List Cut) (path : List StepPos) (k : ℕ) →
    pos 1 ≤ℤ step → IsEvenIfArc w → IsChain step w cuts → IsPathOf step w path → k < length path →
    Any (λ b. IsIn b (point path k)) (derived_boxes step w cuts)

-- each point of a path of a motion whose pieces are valid is safe for the tool
abbrev pub SafeOnPath : Type 0
SafeOnPath = (machine : MachineFile) (tool : Option Tool) (w : Way) (pieces : List Piece)
    (path : List StepPos) (k : ℕ) →
    pos 1 ≤ℤ machine.step → IsEvenIfArc w → ArePiecesValid machine tool w pieces →
    IsPathOf machine.step w path → k < length path →
    IsSafe machine tool (point path k)

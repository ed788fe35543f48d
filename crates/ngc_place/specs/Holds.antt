-- When a program fits the machine at each shift of its origin within a box of shifts. When the
-- origin rises, a coordinate of a piece's box never falls. So its least value is that at the lowest
-- shift, and its greatest value that at the highest. Our own.
use Rattle.std.specs.Prelude.{◌≡◌, ℕ, zero, suc, ◌+◌, ◌*◌, ◌/◌, ◌≤◌, List, [], ◌∷◌, Option, None}
use Rattle.std.specs.Prelude.{Result, Ok, Bool, true, false, ◌&&◌, IsTrue}
use Rattle.std.specs.List.{find}
use Rattle.std.specs.Option.{is_some, is_none}
use Rattle.ngc_fixed_length.specs.Boxes.{IsIn, only}
use Rattle.ngc_fixed_length.specs.Grid.{grid}
use Rattle.ngc_fixed_length.specs.Length.{IsStep}
use Rattle.ngc_fixed_length.specs.declared.points.GridBox.{GridBox}
use Rattle.ngc_fixed_length.specs.declared.points.Point3.{Point3}
use Rattle.ngc_fixed_length.specs.declared.points.StepPos.{StepPos}
use Rattle.ngc_arc_geometry.specs.Swept.{swept_box}
use Rattle.ngc_machine_files.specs.Machine.{MachineFile}
use Rattle.ngc_machine_files.specs.declared.tools.Tool.{Tool}
use Rattle.ngc_collision.specs.Body.{first_met, is_in_travel}
use Rattle.ngc_commands.specs.declared.command.Action.{Action}
use Rattle.ngc_commands.specs.declared.command.Action.TheVariants.{Move, Mount}
use Rattle.ngc_commands.specs.declared.command.Command.{Command}
use Rattle.ngc_commands.specs.declared.movement.Way.{Way}
use Rattle.ngc_commands.specs.declared.movement.Way.TheVariants.{Line, Arc}
use Rattle.ngc_commands.specs.Movement.{actions_of}
use Rattle.ngc_commands.specs.Reached.{after, at_start}
use Rattle.ngc_commands.specs.declared.reached.Reached.{Reached}
use Rattle.ngc_certificate_text.specs.Certificate.{WHOLE, Entry, CertificateData}
use Rattle.ngc_certificate.specs.declared.fault.MakeFault.{MakeFault}
use Rattle.ngc_certificate.specs.DerivedBox.{line_box}
use Rattle.ngc_certificate.specs.Made.{tries, IsSettingMade, IsMade}
use Rattle.ngc_certificate.specs.PieceFault.{place_fault}
use Rattle.ngc_certificate.specs.Traverses.{most_pieces}
use Rattle.ngc_place.specs.Shifts.{shifted, way_shifted, end_moves, AreShifted}

-- from the lowest corner of one box to the highest of another
abbrev pub over : GridBox → GridBox → GridBox
over a b = record { low = a.low; high = b.high }

-- all points of a box lie in the travel, and the tool meets no fixture there
abbrev pub is_clear : MachineFile → Option Tool → GridBox → Bool
is_clear machine tool b = is_in_travel machine b && is_none (first_met machine tool b)

-- pieces k + 1 to k + left of a line in c pieces; at the lowest shift the line goes from p to q,
-- and at the highest from u to v
abbrev pub pieces_clear : MachineFile → Option Tool → Point3 → Point3 → Point3 → Point3 → ℕ → ℕ →
    ℕ → Bool
pieces_clear machine tool p q u v c k zero = true
pieces_clear machine tool p q u v c k (suc left) =
    is_clear machine tool
    (over (line_box machine.step p q (WHOLE * k / c) (WHOLE * (k + 1) / c))
    (line_box machine.step u v (WHOLE * k / c) (WHOLE * (k + 1) / c)))
    && pieces_clear machine tool p q u v c (k + 1) left

-- a path at the lowest shift and at the highest: a line in one of the numbers of pieces that are
-- tried, an arc undivided
abbrev pub way_clear : MachineFile → ℕ → Option Tool → Way → Way → Bool
way_clear machine most tool (Line p q) (Line u v) =
    is_some (find (λ c. pieces_clear machine tool p q u v c 0 c) (tries most))
way_clear machine most tool (Arc a) (Arc b) =
    is_clear machine tool (over (swept_box machine.step a) (swept_box machine.step b))
way_clear machine most tool _ _ = false

-- an arc moves as a whole or stays
abbrev pub keeps_shape : Bool → Bool → Way → Bool
keeps_shape start end (Line p q) = true
keeps_shape true end (Arc a) = end
keeps_shape false true (Arc a) = false
keeps_shape false false (Arc a) = true

-- no fixture is met where a tool is mounted
abbrev pub place_clear : MachineFile → Option Tool → Point3 → Point3 → Bool
place_clear machine tool p q =
    is_none (first_met machine tool
    (over (only (grid machine.step p)) (only (grid machine.step q))))

-- an action whose end moves with the origin or not, with the tool mounted and the point reached so
-- far, which moves or not
abbrev pub action_clear : MachineFile → ℕ → GridBox → Reached → Bool → Bool → Action → Bool
action_clear machine most shifts r start end (Mount new) =
    place_clear machine new (shifted machine.step shifts.low start r.place)
    (shifted machine.step shifts.high start r.place)
action_clear machine most shifts r start end (Move m) =
    keeps_shape start end m.way
    && way_clear machine (most_pieces machine most m.pace) r.tool
    (way_shifted machine.step shifts.low start end m.way)
    (way_shifted machine.step shifts.high start end m.way)
action_clear machine most shifts r start end _ = true

-- Each action is clear at all shifts of a box. Each needs a mark that states whether its end moves.
abbrev pub holds_from : MachineFile → ℕ → GridBox → Reached → Bool → List Bool → List Action → Bool
holds_from machine most shifts r start moving [] = true
holds_from machine most shifts r start [] (action ∷ actions) = false
holds_from machine most shifts r start (end ∷ moving) (action ∷ actions) =
    action_clear machine most shifts r start end action
    && holds_from machine most shifts (after r action) (end_moves start end action) moving actions

abbrev pub holds : MachineFile → ℕ → GridBox → List Bool → List Command → Bool
holds machine most shifts moving commands =
    is_none (place_fault machine None (grid machine.step machine.start))
    && holds_from machine most shifts (at_start machine) false moving (actions_of commands)

-- ---- the laws

-- if a program holds over a box of shifts, the motions of the program exist at each of them
abbrev pub HoldsIsMade : Type 0
HoldsIsMade = (machine : MachineFile) (most : ℕ) (shifts : GridBox) (n : StepPos)
    (moving : List Bool) (commands others : List Command) (says : Result (List Entry) ℕ) →
    IsStep machine.step → 1 ≤ most → most ≤ 65535 → IsIn shifts n →
    IsTrue (holds machine most shifts moving commands) →
    AreShifted machine.step n moving commands others → IsSettingMade machine most others says →
    (entries : List Entry) × (says ≡ Ok entries)

-- a certificate exists if the program holds at both settings of block delete
abbrev pub HoldsIsCertified : Type 0
HoldsIsCertified = (machine : MachineFile) (most : ℕ) (shifts : GridBox) (n : StepPos)
    (off_moving on_moving : List Bool) (off on others_off others_on : List Command)
    (says : Result CertificateData MakeFault) →
    IsStep machine.step → 1 ≤ most → most ≤ 65535 → IsIn shifts n →
    IsTrue (holds machine most shifts off_moving off) →
    IsTrue (holds machine most shifts on_moving on) →
    AreShifted machine.step n off_moving off others_off →
    AreShifted machine.step n on_moving on others_on →
    IsMade machine most others_off others_on says →
    (c : CertificateData) × (says ≡ Ok c)

-- it holds over each box within a box that it holds over
abbrev pub HoldsWithin : Type 0
HoldsWithin = (machine : MachineFile) (most : ℕ) (outer inner : GridBox) (moving : List Bool)
    (commands : List Command) →
    IsStep machine.step → 1 ≤ most → most ≤ 65535 → IsIn outer inner.low → IsIn outer inner.high →
    IsTrue (holds machine most outer moving commands) →
    IsTrue (holds machine most inner moving commands)

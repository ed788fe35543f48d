-- The maker's progress in the commands of a setting. Our own.
use Rattle.std.specs.Prelude.{◌≡◌, ℕ, ◌+◌, ◌≤◌, ℤ, List, ◌∷◌, ◌++◌, length, Option, Some, None}
use Rattle.std.specs.Prelude.{Result, Ok, Err, Bool, if◌then◌else◌}
use Rattle.ngc_arc_geometry.specs.Shape.{ArcShape}
use Rattle.ngc_arc_geometry.specs.Shape as shapes
use Rattle.ngc_arc_geometry.specs.Swept.{swept_box}
use Rattle.ngc_certificate_text.specs.declared.piece.Cut.TheVariants.{Place}
use Rattle.ngc_fixed_length.specs.declared.points.Point3.{Point3}
use Rattle.ngc_machine_files.specs.Machine.{MachineFile}
use Rattle.ngc_machine_files.specs.declared.tools.Tool.{Tool}
use Rattle.ngc_commands.specs.declared.command.Action.{Action}
use Rattle.ngc_commands.specs.declared.movement.Way.{Way}
use Rattle.ngc_fixed_length.specs.Grid.{grid}
use Rattle.std.specs.Option.{is_none}
use Rattle.ngc_certificate_text.specs.declared.piece.Piece.{Piece}
use Rattle.ngc_certificate_text.specs.Certificate.{Entry}
use Rattle.ngc_certificate_text.specs.declared.piece.Setting.{Setting}
use Rattle.ngc_certificate.specs.declared.fault.MakeFault.{MakeFault}
use Rattle.ngc_certificate.specs.declared.fault.MakeFault.TheVariants as faults
use Rattle.ngc_certificate.specs.declared.maker.Progress.{Progress}
use Rattle.ngc_certificate.specs.declared.maker.MotionRefusal.{MotionRefusal}
use Rattle.ngc_certificate.specs.declared.maker.MotionRefusal.TheVariants.{NotCleared, Memory}
use Rattle.ngc_certificate.specs.PieceFault.{pieces_fault, place_fault}
use Rattle.ngc_certificate.specs.Made.{pieces_of, IsMadeFrom}

-- an arc in one piece
abbrev pub whole_arc : ℤ → ArcShape → Piece
whole_arc step a = record { end = Place (shapes.end_of a); bounds = swept_box step a }

-- no piece is refused if a motion has this number of pieces
abbrev pub is_clear_in : MachineFile → Option Tool → Way → ℕ → Bool
is_clear_in machine tool w count =
    is_none (pieces_fault machine tool w (pieces_of machine.step w count))

-- the tool meets no fixture with the axes at a position
abbrev pub is_clear_at : MachineFile → Option Tool → Point3 → Bool
is_clear_at machine tool place = is_none (place_fault machine tool (grid machine.step place))

-- the pieces, if they are clear
abbrev pub pieces_where : Bool → List Piece → Option (List Piece)
pieces_where clear pieces = if clear then Some pieces else None

-- the motions so far, before those that follow
abbrev pub afterwards : List Entry → Result (List Entry) ℕ → Result (List Entry) ℕ
afterwards entries (Ok rest) = Ok (entries ++ rest)
afterwards entries (Err k) = Err k

-- the motions so far, the mounted tool and the position of the axes
pub record MadeSoFar : Type 0 where
  pub motions : List Entry
  pub tool : Option Tool
  pub place : Point3

-- the same, of a maker whose motions are seen as entries
abbrev pub made_by : {M : Type 0} → (M → List Entry) → Progress M → MadeSoFar
made_by entries p = record { motions = entries p.motions; tool = p.tool; place = p.place }

-- the allowed results for a setting, from command k on, if these commands remain
abbrev pub IsAllowedFrom : MachineFile → ℕ → ℕ → MadeSoFar → List Action → Result (List Entry) ℕ → Type 0
IsAllowedFrom machine most k p actions says =
    (rest : Result (List Entry) ℕ) × IsMadeFrom machine most k p.tool p.place actions rest ×
    (says ≡ afterwards p.motions rest)

-- command k is executed, or it isn't cleared, unless memory ran out
abbrev pub Leads : MachineFile → ℕ → ℕ → Action → MadeSoFar →
    Result (Unit {0}) MotionRefusal → MadeSoFar →
    Type 0
Leads machine most k action old (Ok done) new =
    ((actions : List Action) (says : Result (List Entry) ℕ) →
    IsAllowedFrom machine most (k + 1) new actions says →
    IsAllowedFrom machine most k old (action ∷ actions) says)
    × (length new.motions ≤ length old.motions + 1)
Leads machine most k action old (Err (NotCleared command)) new =
    (actions : List Action) → IsAllowedFrom machine most k old (action ∷ actions) (Err command)
Leads machine most k action old (Err Memory) new = Unit {0}

-- a result that is allowed, unless memory ran out
abbrev pub SettingResultIs : {X : Type 0} → (X → List Entry) → Result X MotionRefusal →
    (Result (List Entry) ℕ → Type 0) → Type 0
SettingResultIs view (Ok x) May = May (Ok (view x))
SettingResultIs view (Err (NotCleared command)) May = May (Err command)
SettingResultIs view (Err Memory) May = Unit {0}

-- the fault for a refusal at a setting
abbrev pub fault_at : Setting → MotionRefusal → MakeFault
fault_at s (NotCleared command) = faults.NotCleared s command
fault_at s Memory = faults.Memory

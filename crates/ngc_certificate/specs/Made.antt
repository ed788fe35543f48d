-- The certificate that is made for the commands of a program at both settings of block delete. Our
-- own.
use Rattle.std.specs.Prelude.{◌≡◌, ℕ, zero, suc, ◌+◌, ◌*◌, ◌/◌, ◌≤◌, nat_lt, ℤ, List, [], ◌∷◌, ◌++◌}
use Rattle.std.specs.Prelude.{length, Option, Some, None, option_map, Result, Ok, Err, Bool, true}
use Rattle.std.specs.Prelude.{false, ◌&&◌}
use Rattle.std.specs.List.{find, filter}
use Rattle.std.specs.Option.{is_none}
use Rattle.ngc_fixed_length.specs.Grid.{grid}
use Rattle.ngc_fixed_length.specs.declared.points.Point3.{Point3}
use Rattle.ngc_arc_geometry.specs.Shape.{ArcShape}
use Rattle.ngc_arc_geometry.specs.Shape as shapes
use Rattle.ngc_arc_geometry.specs.Swept.{swept_box}
use Rattle.ngc_machine_files.specs.Machine.{MachineFile}
use Rattle.ngc_machine_files.specs.declared.tools.Tool.{Tool}
use Rattle.ngc_commands.specs.declared.command.Command.{Command}
use Rattle.ngc_commands.specs.declared.movement.Way.{Way}
use Rattle.ngc_commands.specs.declared.movement.Way.TheVariants.{Line, Arc}
use Rattle.ngc_commands.specs.declared.command.Action.{Action}
use Rattle.ngc_commands.specs.declared.command.Action.TheVariants.{Move, Mount}
use Rattle.ngc_commands.specs.Movement.{actions_of, end_of}
use Rattle.ngc_certificate_text.specs.declared.piece.Cut.TheVariants.{Part, Place}
use Rattle.ngc_certificate_text.specs.declared.piece.Piece.{Piece}
use Rattle.ngc_certificate_text.specs.declared.piece.Setting.TheVariants.{Off, On}
use Rattle.ngc_certificate_text.specs.Certificate.{WHOLE, Entry, CertificateData}
use Rattle.ngc_certificate.specs.declared.fault.MakeFault.{MakeFault}
use Rattle.ngc_certificate.specs.declared.fault.MakeFault.TheVariants.{NotCleared, Memory}
use Rattle.ngc_certificate.specs.DerivedBox.{line_box, HaveDerivedBoxes}
use Rattle.ngc_certificate.specs.PieceFault.{pieces_fault, place_fault}
use Rattle.ngc_certificate.specs.Traverses.{most_pieces}

-- the line between two cuts
abbrev pub line_piece : ℤ → Point3 → Point3 → ℕ → ℕ → Piece
line_piece step b e s t = record { end = Part t; bounds = line_box step b e s t }

-- pieces k + 1 to k + left of a line in c pieces of about the same length
abbrev pub line_pieces_from : ℤ → Point3 → Point3 → ℕ → ℕ → ℕ → List Piece
line_pieces_from step b e c k zero = []
line_pieces_from step b e c k (suc left) =
    line_piece step b e (WHOLE * k / c) (WHOLE * (k + 1) / c)
    ∷ line_pieces_from step b e c (k + 1) left

-- a motion undivided, or a line in c pieces
abbrev pub pieces_of : ℤ → Way → ℕ → List Piece
pieces_of step (Line b e) c = line_pieces_from step b e c 0 c
pieces_of step (Arc a) c = record { end = Place (shapes.end_of a); bounds = swept_box step a } ∷ []

-- the numbers of pieces to try: the powers of two below the most, and then the most itself
abbrev pub powers_of_two : List ℕ
powers_of_two =
    1 ∷ 2 ∷ 4 ∷ 8 ∷ 16 ∷ 32 ∷ 64 ∷ 128 ∷ 256 ∷ 512 ∷ 1024 ∷ 2048 ∷ 4096 ∷ 8192 ∷ 16384 ∷ 32768 ∷ []

abbrev pub tries : ℕ → List ℕ
tries most = filter (λ c. nat_lt c most) powers_of_two ++ most ∷ []

-- the pieces of the first try of which none is refused
abbrev pub cleared : MachineFile → ℕ → Option Tool → Way → Option (List Piece)
cleared machine most tool w =
    option_map (pieces_of machine.step w)
    (find (λ c. is_none (pieces_fault machine tool w (pieces_of machine.step w c)))
    (tries most))

-- one more motion, before those that follow
abbrev pub with_entry : ℕ → List Piece → Result (List Entry) ℕ → Result (List Entry) ℕ
with_entry k pieces (Ok entries) = Ok (record { index = k; pieces = pieces } ∷ entries)
with_entry k pieces (Err refused) = Err refused

abbrev pub with_pieces : ℕ → Option (List Piece) → Result (List Entry) ℕ → Result (List Entry) ℕ
with_pieces k None rest = Err k
with_pieces k (Some pieces) rest = with_entry k pieces rest

-- the rest, unless a fixture is met
abbrev pub unless_met : Option ℕ → ℕ → Result (List Entry) ℕ → Result (List Entry) ℕ
unless_met None k rest = rest
unless_met (Some fixture) k rest = Err k

-- ---- the pieces that may be found for a motion

-- an arc in several pieces, at most the number allowed, each in its derived box, of which none is
-- refused
pub record IsCutClear (machine : MachineFile) (most : ℕ) (tool : Option Tool) (a : ArcShape)
    (pieces : List Piece) : Type 0 where
  pub few : length pieces ≤ most
  pub boxes : HaveDerivedBoxes machine.step (Arc a) pieces
  pub clear : pieces_fault machine tool (Arc a) pieces ≡ None

-- such pieces, or none
abbrev pub MayCut : MachineFile → ℕ → Option Tool → ArcShape → Option (List Piece) → Type 0
MayCut machine most tool a None = Unit {0}
MayCut machine most tool a (Some pieces) = IsCutClear machine most tool a pieces

-- an arc has one piece if that clears it; otherwise it has cuts, and their positions are not
-- prescribed
pub record MayHavePieces (machine : MachineFile) (most : ℕ) (tool : Option Tool) (a : ArcShape)
    (found : Option (List Piece)) : Type 0 where
  pub whole : is_none (pieces_fault machine tool (Arc a) (pieces_of machine.step (Arc a) 1))
      ≡ true → found ≡ Some (pieces_of machine.step (Arc a) 1)
  pub cut : is_none (pieces_fault machine tool (Arc a) (pieces_of machine.step (Arc a) 1)) ≡ false →
      MayCut machine most tool a found

-- a line has the pieces of the first try of which none is refused
abbrev pub MayFindPieces : MachineFile → ℕ → Option Tool → Way → Option (List Piece) → Type 0
MayFindPieces machine most tool (Line b e) found = found ≡ cleared machine most tool (Line b e)
MayFindPieces machine most tool (Arc a) found = MayHavePieces machine most tool a found

-- ---- the certificates that may be made

-- From command k on, with the tool mounted and the position reached so far: each motion with pieces
-- that may be found for it, or the first command that isn't cleared, which is a motion for which
-- none are found or a tool change that meets a fixture.
abbrev pub IsMadeFrom : MachineFile → ℕ → ℕ → Option Tool → Point3 → List Action →
    Result (List Entry) ℕ → Type 0
IsMadeFrom machine most k tool place [] says = says ≡ Ok []
IsMadeFrom machine most k tool place (Mount new ∷ actions) says =
    (rest : Result (List Entry) ℕ) × IsMadeFrom machine most (k + 1) new place actions rest
    × (says ≡ unless_met (place_fault machine new (grid machine.step place)) k rest)
IsMadeFrom machine most k tool place (Move m ∷ actions) says =
    (found : Option (List Piece)) × (rest : Result (List Entry) ℕ) ×
    MayFindPieces machine (most_pieces machine most m.pace) tool m.way found
    × IsMadeFrom machine most (k + 1) tool (end_of m.way) actions rest ×
    (says ≡ with_pieces k found rest)
IsMadeFrom machine most k tool place (_ ∷ actions) says =
    IsMadeFrom machine most (k + 1) tool place actions says

abbrev pub IsSettingMade : MachineFile → ℕ → List Command → Result (List Entry) ℕ → Type 0
IsSettingMade machine most commands says =
    IsMadeFrom machine most 0 None machine.start (actions_of commands) says

-- both settings, or the first command that isn't cleared; for a start point that isn't clear it is
-- command 0 with block delete off
abbrev pub join_settings : Result (List Entry) ℕ → Result (List Entry) ℕ →
    Result CertificateData MakeFault
join_settings (Err k) on = Err (NotCleared Off k)
join_settings (Ok off) (Err k) = Err (NotCleared On k)
join_settings (Ok off) (Ok on) = Ok (record { off = off; on = on })

abbrev pub from_start : Option ℕ → Result CertificateData MakeFault →
    Result CertificateData MakeFault
from_start None rest = rest
from_start (Some fixture) rest = Err (NotCleared Off 0)

abbrev pub IsMade : MachineFile → ℕ → List Command → List Command →
    Result CertificateData MakeFault → Type 0
IsMade machine most off on says =
    (first : Result (List Entry) ℕ) × (second : Result (List Entry) ℕ) ×
    IsSettingMade machine most off first × IsSettingMade machine most on second
    × (says ≡ from_start (place_fault machine None (grid machine.step machine.start))
    (join_settings first second))

-- a result that is allowed, unless memory ran out
abbrev pub MadeResultIs : {X : Type 0} → (X → CertificateData) → Result X MakeFault →
    (Result CertificateData MakeFault → Type 0) → Type 0
MadeResultIs view (Ok x) May = May (Ok (view x))
MadeResultIs view (Err (NotCleared s k)) May = May (Err (NotCleared s k))
MadeResultIs view (Err Memory) May = Unit {0}

-- start and tool changes are clear, and every motion's undivided box clears
abbrev pub clears_from : MachineFile → Option Tool → Point3 → List Action → Bool
clears_from machine tool place [] = true
clears_from machine tool place (Mount new ∷ actions) =
    is_none (place_fault machine new (grid machine.step place))
    && clears_from machine new place actions
clears_from machine tool place (Move m ∷ actions) =
    is_none (pieces_fault machine tool m.way (pieces_of machine.step m.way 1))
    && clears_from machine tool (end_of m.way) actions
clears_from machine tool place (_ ∷ actions) = clears_from machine tool place actions

abbrev pub clears_undivided : MachineFile → List Command → Bool
clears_undivided machine commands =
    is_none (place_fault machine None (grid machine.step machine.start))
    && clears_from machine None machine.start (actions_of commands)

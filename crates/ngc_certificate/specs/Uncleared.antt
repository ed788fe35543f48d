-- The commands of a setting that aren't cleared. Our own.
use Rattle.std.specs.Prelude.{◌≡◌, ℕ, ◌+◌, List, [], ◌∷◌, Option, None, Result, Ok, Err, Bool, true}
use Rattle.std.specs.Prelude.{false}
use Rattle.std.specs.Option.{is_some, is_none}
use Rattle.ngc_fixed_length.specs.Grid.{grid}
use Rattle.ngc_fixed_length.specs.declared.points.Point3.{Point3}
use Rattle.ngc_machine_files.specs.Machine.{MachineFile}
use Rattle.ngc_machine_files.specs.declared.tools.Tool.{Tool}
use Rattle.ngc_commands.specs.declared.command.Command.{Command}
use Rattle.ngc_commands.specs.declared.command.Action.{Action}
use Rattle.ngc_commands.specs.declared.command.Action.TheVariants.{Move, Mount}
use Rattle.ngc_commands.specs.Movement.{actions_of, end_of}
use Rattle.ngc_certificate_text.specs.declared.piece.Piece.{Piece}
use Rattle.ngc_certificate_text.specs.Certificate.{Entry}
use Rattle.ngc_commands.specs.Reached.{after}
use Rattle.ngc_commands.specs.declared.reached.Reached.{Reached}
use Rattle.ngc_certificate.specs.PieceFault.{place_fault}
use Rattle.ngc_certificate.specs.Made.{MayFindPieces, IsSettingMade}
use Rattle.ngc_certificate.specs.Traverses.{most_pieces}

-- command k before those that follow, unless it is cleared
abbrev pub unless_cleared : Bool → ℕ → List ℕ → List ℕ
unless_cleared true k ks = ks
unless_cleared false k ks = k ∷ ks

-- From command k on, with the tool mounted and the position reached so far: each command that isn't
-- cleared, which is a motion for which no pieces are found or a tool change that meets a fixture.
-- After it the motion still counts as made, and the tool as mounted.
abbrev pub AreUnclearedFrom : MachineFile → ℕ → ℕ → Option Tool → Point3 → List Action →
    List ℕ → Type 0
AreUnclearedFrom machine most k tool place [] ks = ks ≡ []
AreUnclearedFrom machine most k tool place (Mount new ∷ actions) ks =
    (rest : List ℕ) × AreUnclearedFrom machine most (k + 1) new place actions rest
    × (ks ≡ unless_cleared (is_none (place_fault machine new (grid machine.step place))) k rest)
AreUnclearedFrom machine most k tool place (Move m ∷ actions) ks =
    (found : Option (List Piece)) × (rest : List ℕ)
    × MayFindPieces machine (most_pieces machine most m.pace) tool m.way found
    × AreUnclearedFrom machine most (k + 1) tool (end_of m.way) actions rest ×
    (ks ≡ unless_cleared (is_some found) k rest)
AreUnclearedFrom machine most k tool place (_ ∷ actions) ks =
    AreUnclearedFrom machine most (k + 1) tool place actions ks

-- all of a setting, from the machine's start with no tool mounted
abbrev pub AreUncleared : MachineFile → ℕ → List Command → List ℕ → Type 0
AreUncleared machine most commands ks =
    AreUnclearedFrom machine most 0 None machine.start (actions_of commands) ks

-- ---- the relation to what is made of the setting

-- the list is empty if motions are made, otherwise it begins with the refused command
abbrev pub BeginsAs : Result (List Entry) ℕ → (List ℕ → Type 0) → Type 0
BeginsAs (Ok entries) May = May []
BeginsAs (Err k) May = (ks : List ℕ) × May (k ∷ ks)

-- what is made of a setting determines the command that may be the first
abbrev pub MadeNamesUncleared : Type 0
MadeNamesUncleared =
    (machine : MachineFile) (most : ℕ) (commands : List Command) (says : Result (List Entry) ℕ) →
    IsSettingMade machine most commands says → BeginsAs says (AreUncleared machine most commands)

-- and if there may be none, motions may be made
abbrev pub NoneUnclearedIsMade : Type 0
NoneUnclearedIsMade = (machine : MachineFile) (most : ℕ) (commands : List Command) →
    AreUncleared machine most commands [] →
    (entries : List Entry) × IsSettingMade machine most commands (Ok entries)

-- the first command that isn't cleared is the one at which the setting is refused
abbrev pub FirstUnclearedIsRefused : Type 0
FirstUnclearedIsRefused =
    (machine : MachineFile) (most : ℕ) (commands : List Command) (k : ℕ) (ks : List ℕ) →
    AreUncleared machine most commands (k ∷ ks) → IsSettingMade machine most commands (Err k)

-- a list that begins with a command
abbrev pub BeginsWith : ℕ → List ℕ → Type 0
BeginsWith k ks = (rest : List ℕ) × (ks ≡ k ∷ rest)

-- ---- from one command to the next

-- command k is executed, cleared or not
abbrev pub LeadsPast : MachineFile → ℕ → ℕ → Action → Reached → Bool → Type 0
LeadsPast machine most k action r clear =
    (actions : List Action) (ks : List ℕ) →
    AreUnclearedFrom machine most (k + 1) (after r action).tool (after r action).place actions ks →
    AreUnclearedFrom machine most k r.tool r.place (action ∷ actions) (unless_cleared clear k ks)

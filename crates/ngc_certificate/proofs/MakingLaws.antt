-- From one command to the next.
use Rattle.std.proofs.Common.{◌≡◌, ℕ, ◌+◌, ◌≤◌, ◌<◌, refl, ap, sym, subst, ◌∙◌, drop, get_or, add-one, drop-cons, List, [], ◌∷◌, ◌++◌, length, Some, None, Ok}
use Rattle.std.proofs.Common.{Err, arith, append_assoc, append-nil, length-append}
use Rattle.std.specs.Prelude.{Option, Result, true, false}
use Rattle.std.specs.Option.{is_none}
use Rattle.ngc_fixed_length.specs.Grid.{grid}
use Rattle.ngc_fixed_length.specs.declared.points.Point3.{Point3}
use Rattle.ngc_machine_files.specs.Machine.{MachineFile}
use Rattle.ngc_machine_files.specs.declared.tools.Tool.{Tool}
use Rattle.ngc_commands.specs.declared.movement.Motion.{Motion}
use Rattle.ngc_commands.specs.declared.command.Action.{Action}
use Rattle.ngc_commands.specs.declared.command.Action.TheVariants.{Move, Mount}
use Rattle.ngc_commands.specs.declared.command.Command.{Command}
use Rattle.ngc_commands.specs.Movement.{actions_of, end_of}
use Rattle.std.proofs.Math.ListN.{drop_of_length-le}
use Rattle.ngc_certificate_text.specs.declared.piece.Piece.{Piece}
use Rattle.ngc_certificate_text.specs.Certificate.{Entry}
use Rattle.ngc_certificate.specs.PieceFault.{place_fault}
use Rattle.ngc_certificate.specs.Made.{with_entry, unless_met, MayFindPieces, IsMadeFrom, IsSettingMade}
use Rattle.ngc_certificate.specs.Traverses.{most_pieces}
use Rattle.ngc_certificate.specs.Making.{afterwards, MadeSoFar, IsAllowedFrom, Leads, SettingResultIs}
use Rattle.ngc_certificate.specs.declared.maker.MotionRefusal.{MotionRefusal}
use Rattle.ngc_certificate.specs.declared.maker.MotionRefusal.TheVariants.{NotCleared, Memory}
use Rattle.ngc_certificate.proofs.SomeMade.{some_made}

after_entry : (motions : List Entry) (k : ℕ) (pieces : List Piece) (r : Result (List Entry) ℕ) →
    afterwards motions (with_entry k pieces r) ≡ afterwards (motions ++ (record { index = k; pieces = pieces } ∷ [])) r
after_entry motions k pieces (Ok rest) =
    let e : Entry = record { index = k; pieces = pieces } in
    ap (λ (l : List Entry). Ok l) (sym (append_assoc motions (e ∷ []) rest))
after_entry motions k pieces (Err refused) = refl

-- a motion for which pieces are found
pub goes_on : (machine : MachineFile) (most k : ℕ) (tool : Option Tool) (place new_place : Point3) (motions new_motions : List Entry) (m : Motion)
    (pieces same : List Piece) (actions : List Action) (says rest : Result (List Entry) ℕ) →
    MayFindPieces machine (most_pieces machine most m.pace) tool m.way (Some pieces) → same ≡ pieces → new_motions ≡ motions ++ (record { index = k; pieces = same } ∷ []) →
    new_place ≡ end_of m.way →
    IsMadeFrom machine most (k + 1) tool new_place actions rest → says ≡ afterwards new_motions rest →
    (all : Result (List Entry) ℕ) × IsMadeFrom machine most k tool place (Move m ∷ actions) all × (says ≡ afterwards motions all)
goes_on machine most k tool place new_place motions new_motions m pieces same actions says rest found same_pieces added ends made e = (
  with_entry k pieces rest,
  (Some pieces, rest, found, subst (λ p. IsMadeFrom machine most (k + 1) tool p actions rest) ends made, refl),
  e ∙ ap (λ ms. afterwards ms rest) added ∙ ap (λ ps. afterwards (motions ++ (record { index = k; pieces = ps } ∷ [])) rest) same_pieces
      ∙ sym (after_entry motions k pieces rest),
)

-- one for which none are found
pub stops : (machine : MachineFile) (most k : ℕ) (tool : Option Tool) (place : Point3) (motions : List Entry) (m : Motion) (actions : List Action) →
    MayFindPieces machine (most_pieces machine most m.pace) tool m.way None → (all : Result (List Entry) ℕ) × IsMadeFrom machine most k tool place (Move m ∷ actions) all ×
    (Err k ≡ afterwards motions all)
stops machine most k tool place motions m actions found =
    let rest = some_made machine most (k + 1) tool (end_of m.way) actions in
    (Err k, (None, rest.0, found, rest.1, refl), refl)

met : (found : Option ℕ) (k : ℕ) (motions : List Entry) (rest : Result (List Entry) ℕ) → is_none found ≡ false →
    Err k ≡ afterwards motions (unless_met found k rest)
met None k motions rest h = absurd (true≢false h)
  where
    true≢false : true ≡ false → ⊥
    true≢false e = cc
met (Some fixture) k motions rest h = refl

-- a tool that meets a fixture
pub not_mounted : (machine : MachineFile) (most k : ℕ) (tool new : Option Tool) (place : Point3) (motions : List Entry) (actions : List Action) →
    is_none (place_fault machine new (grid machine.step place)) ≡ false →
    (all : Result (List Entry) ℕ) × IsMadeFrom machine most k tool place (Mount new ∷ actions) all × (Err k ≡ afterwards motions all)
not_mounted machine most k tool new place motions actions h =
    let rest = some_made machine most (k + 1) new place actions in
    let found = place_fault machine new (grid machine.step place) in
    (unless_met found k rest.0, (rest.0, rest.1, refl), met found k motions rest.0 h)

-- ---- all commands of a setting

pub nothing_before : (says rest : Result (List Entry) ℕ) → says ≡ afterwards [] rest → says ≡ rest
nothing_before says (Ok rest) e = e
nothing_before says (Err k) e = e

pub nothing_behind : (motions : List Entry) → (rest : Result (List Entry) ℕ) × (rest ≡ Ok []) × (Ok motions ≡ afterwards motions rest)
nothing_behind motions = (Ok [], refl, ap (λ (l : List Entry). Ok l) (sym (append-nil motions)))

pub one_longer : (motions new_motions : List Entry) (e : Entry) → new_motions ≡ motions ++ (e ∷ []) → length new_motions ≤ length motions + 1
one_longer motions new_motions e h = rw h (rw (length-append motions (e ∷ [])) (omega arith))

-- the actions of the commands from the next one on
pub next_action : (i : ℕ) (commands : List Command) (c : Command) → i < length commands → c ≡ get_or commands i c →
    actions_of (drop i commands) ≡ c.action ∷ actions_of (drop (i + 1) commands)
next_action i commands c h e =
    let split = drop-cons commands i c h in
    let first : drop i commands ≡ c ∷ drop (i + 1) commands = rw (split, ← e, add-one) refl in
    ap actions_of first

pub none_left : (i : ℕ) (commands : List Command) → length commands ≤ i → actions_of (drop i commands) ≡ []
none_left i commands h = ap actions_of (drop_of_length-le commands {i = i} h)

-- a command that isn't cleared
pub stopped : (machine : MachineFile) (most k : ℕ) (commands : List Command) (action : Action) (left later : List Action) (old new : MadeSoFar)
    (refusal : MotionRefusal) →
    ((says : Result (List Entry) ℕ) → IsAllowedFrom machine most k old left says → IsSettingMade machine most commands says) → left ≡ action ∷ later →
    Leads machine most k action old (Err refusal) new → SettingResultIs {X = List Entry} (λ m. m) (Err refusal) (IsSettingMade machine most commands)
stopped machine most k commands action left later old new (NotCleared n) leads split h =
    leads (Err n) (subst (λ actions. IsAllowedFrom machine most k old actions (Err n)) (sym split) (h later))
stopped machine most k commands action left later old new Memory leads split h = tt

-- a refusal is the same for each kind of store
pub refusal_seen : {X Y : Type 0} (view : X → List Entry) (seen : Y → List Entry) (refusal : MotionRefusal) (May : Result (List Entry) ℕ → Type 0) →
    SettingResultIs view (Err refusal) May → SettingResultIs seen (Err refusal) May
refusal_seen view seen (NotCleared n) May h = h
refusal_seen view seen Memory May h = tt

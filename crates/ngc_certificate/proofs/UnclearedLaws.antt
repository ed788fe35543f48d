-- The commands that aren't cleared, and what is made.
use Rattle.std.proofs.Common.{◌≡◌, ℕ, ◌+◌, refl, ap, sym, subst, List, [], ◌∷◌, Some, None, Ok, Err, true, false}
use Rattle.std.specs.Prelude.{Option, Result, Bool}
use Rattle.std.specs.Option.{is_some, is_none}
use Rattle.ngc_fixed_length.specs.Grid.{grid}
use Rattle.ngc_fixed_length.specs.declared.points.Point3.{Point3}
use Rattle.ngc_machine_files.specs.Machine.{MachineFile}
use Rattle.ngc_machine_files.specs.declared.tools.Tool.{Tool}
use Rattle.ngc_commands.specs.declared.movement.Motion.{Motion}
use Rattle.ngc_commands.specs.declared.command.Action.{Action}
use Rattle.ngc_commands.specs.declared.command.Action.TheVariants.{Move, Mount}
use Rattle.ngc_commands.specs.Movement.{actions_of, end_of}
use Rattle.ngc_certificate_text.specs.declared.piece.Piece.{Piece}
use Rattle.ngc_certificate_text.specs.Certificate.{Entry}
use Rattle.ngc_certificate.specs.PieceFault.{place_fault}
use Rattle.ngc_certificate.specs.Made.{with_pieces, unless_met, MayFindPieces, IsMadeFrom}
use Rattle.ngc_certificate.specs.Traverses.{most_pieces}
use Rattle.ngc_certificate.specs.Uncleared.{unless_cleared, AreUnclearedFrom, BeginsAs, FirstUnclearedIsRefused, MadeNamesUncleared, NoneUnclearedIsMade}
use Rattle.ngc_certificate.proofs.Cleared.{none_of}
use Rattle.ngc_certificate.proofs.SomeMade.{some_found, some_made}

-- there is a result for all commands
some_uncleared : (machine : MachineFile) (most k : ℕ) (tool : Option Tool) (place : Point3) (actions : List Action) →
    (ks : List ℕ) × AreUnclearedFrom machine most k tool place actions ks
some_uncleared machine most k tool place [] = ([], refl)
some_uncleared machine most k tool place (Mount new ∷ actions) =
    let rest = some_uncleared machine most (k + 1) new place actions in
    (unless_cleared (is_none (place_fault machine new (grid machine.step place))) k rest.0, (rest.0, rest.1, refl))
some_uncleared machine most k tool place (Move m ∷ actions) =
    let found = some_found machine (most_pieces machine most m.pace) tool m.way in
    let rest = some_uncleared machine most (k + 1) tool (end_of m.way) actions in
    (unless_cleared (is_some found.0) k rest.0, (found.0, rest.0, found.1, rest.1, refl))
some_uncleared machine most k tool place (_ ∷ actions) = some_uncleared machine most (k + 1) tool place actions

at_mount : (machine : MachineFile) (most k : ℕ) (tool new : Option Tool) (place : Point3) (actions : List Action) (met : Option ℕ)
    (rest : Result (List Entry) ℕ) →
    met ≡ place_fault machine new (grid machine.step place) → BeginsAs rest (AreUnclearedFrom machine most (k + 1) new place actions) →
    BeginsAs (unless_met met k rest) (AreUnclearedFrom machine most k tool place (Mount new ∷ actions))
at_mount machine most k tool new place actions None (Ok entries) e h = ([], h, ap (λ o. unless_cleared (is_none o) k []) e)
at_mount machine most k tool new place actions None (Err n) e h = (h.0, (n ∷ h.0, h.1, ap (λ o. unless_cleared (is_none o) k (n ∷ h.0)) e))
at_mount machine most k tool new place actions (Some fixture) rest e h =
    let later = some_uncleared machine most (k + 1) new place actions in
    (later.0, (later.0, later.1, ap (λ o. unless_cleared (is_none o) k later.0) e))

at_motion : (machine : MachineFile) (most k : ℕ) (tool : Option Tool) (place : Point3) (m : Motion) (actions : List Action) (found : Option (List Piece))
    (rest : Result (List Entry) ℕ) →
    MayFindPieces machine (most_pieces machine most m.pace) tool m.way found → BeginsAs rest (AreUnclearedFrom machine most (k + 1) tool (end_of m.way) actions) →
    BeginsAs (with_pieces k found rest) (AreUnclearedFrom machine most k tool place (Move m ∷ actions))
at_motion machine most k tool place m actions None rest may h =
    let later = some_uncleared machine most (k + 1) tool (end_of m.way) actions in
    (later.0, (None, later.0, may, later.1, refl))
at_motion machine most k tool place m actions (Some pieces) (Ok entries) may h = (Some pieces, [], may, h, refl)
at_motion machine most k tool place m actions (Some pieces) (Err n) may h = (h.0, (Some pieces, n ∷ h.0, may, h.1, refl))

as_made : (machine : MachineFile) (most k : ℕ) (tool : Option Tool) (place : Point3) (actions : List Action) (says : Result (List Entry) ℕ) →
    IsMadeFrom machine most k tool place actions says → BeginsAs says (AreUnclearedFrom machine most k tool place actions)
as_made machine most k tool place [] says made = subst (λ s. BeginsAs s (AreUnclearedFrom machine most k tool place [])) (sym made) refl
as_made machine most k tool place (Mount new ∷ actions) says made =
    let rest = as_made machine most (k + 1) new place actions made.0 made.1 in
    subst (λ s. BeginsAs s (AreUnclearedFrom machine most k tool place (Mount new ∷ actions))) (sym made.2)
    (at_mount machine most k tool new place actions (place_fault machine new (grid machine.step place)) made.0 refl rest)
as_made machine most k tool place (Move m ∷ actions) says made =
    let rest = as_made machine most (k + 1) tool (end_of m.way) actions made.1 made.3 in
    subst (λ s. BeginsAs s (AreUnclearedFrom machine most k tool place (Move m ∷ actions))) (sym made.4)
    (at_motion machine most k tool place m actions made.0 made.1 made.2 rest)
as_made machine most k tool place (_ ∷ actions) says made = as_made machine most (k + 1) tool place actions says made

pub made_says : MadeNamesUncleared
made_says machine most commands says made = as_made machine most 0 None machine.start (actions_of commands) says made

-- ---- if there is none

nothing_listed : (clear : Bool) (k : ℕ) (rest : List ℕ) → [] ≡ unless_cleared clear k rest → (clear ≡ true) × (rest ≡ [])
nothing_listed true k rest h = (refl, sym h)
nothing_listed false k rest h = absurd (none-one h)
  where
    none-one : [] ≡ k ∷ rest → ⊥
    none-one e = cc

pieces_in : (found : Option (List Piece)) → is_some found ≡ true → (pieces : List Piece) × (found ≡ Some pieces)
pieces_in None h = absurd (false≢true h)
  where
    false≢true : false ≡ true → ⊥
    false≢true e = cc
pieces_in (Some pieces) h = (pieces, refl)

none_is_made : (machine : MachineFile) (most k : ℕ) (tool : Option Tool) (place : Point3) (actions : List Action) →
    AreUnclearedFrom machine most k tool place actions [] → (entries : List Entry) × IsMadeFrom machine most k tool place actions (Ok entries)
none_is_made machine most k tool place [] h = ([], refl)
none_is_made machine most k tool place (Mount new ∷ actions) h =
    let met = place_fault machine new (grid machine.step place) in
    let none = nothing_listed (is_none met) k h.0 h.2 in
    let later = none_is_made machine most (k + 1) new place actions (subst (AreUnclearedFrom machine most (k + 1) new place actions) none.1 h.1) in
    (later.0, (Ok later.0, later.1, ap (λ o. unless_met o k (Ok later.0)) (sym (none_of met none.0))))
none_is_made machine most k tool place (Move m ∷ actions) h =
    let none = nothing_listed (is_some h.0) k h.1 h.4 in
    let found = pieces_in h.0 none.0 in
    let later = none_is_made machine most (k + 1) tool (end_of m.way) actions
    (subst (AreUnclearedFrom machine most (k + 1) tool (end_of m.way) actions) none.1 h.3) in
    (record { index = k; pieces = found.0 } ∷ later.0, (h.0, Ok later.0, h.2, later.1, ap (λ o. with_pieces k o (Ok later.0)) (sym found.1)))
none_is_made machine most k tool place (_ ∷ actions) h = none_is_made machine most (k + 1) tool place actions h

pub none_made : NoneUnclearedIsMade
none_made machine most commands h = none_is_made machine most 0 None machine.start (actions_of commands) h

-- ---- the first of them

abbrev first_or : ℕ → List ℕ → ℕ
first_or n [] = n
first_or n (m ∷ ms) = m

refused_at_mount : (machine : MachineFile) (most k j : ℕ) (new : Option Tool) (place : Point3) (actions : List Action) (ks rest : List ℕ) (met : Option ℕ) →
    j ∷ ks ≡ unless_cleared (is_none met) k rest → (rest ≡ j ∷ ks → IsMadeFrom machine most (k + 1) new place actions (Err j)) →
    (later : Result (List Entry) ℕ) × IsMadeFrom machine most (k + 1) new place actions later × (Err j ≡ unless_met met k later)
refused_at_mount machine most k j new place actions ks rest None h on = (Err j, on (sym h), refl)
refused_at_mount machine most k j new place actions ks rest (Some fixture) h on =
    let later = some_made machine most (k + 1) new place actions in
    (later.0, later.1, ap (λ ms. Err (first_or j ms)) h)

refused_at_motion : (machine : MachineFile) (most k j : ℕ) (tool : Option Tool) (place : Point3) (actions : List Action) (ks rest : List ℕ)
    (found : Option (List Piece)) →
    j ∷ ks ≡ unless_cleared (is_some found) k rest → (rest ≡ j ∷ ks → IsMadeFrom machine most (k + 1) tool place actions (Err j)) →
    (later : Result (List Entry) ℕ) × IsMadeFrom machine most (k + 1) tool place actions later × (Err j ≡ with_pieces k found later)
refused_at_motion machine most k j tool place actions ks rest (Some pieces) h on = (Err j, on (sym h), refl)
refused_at_motion machine most k j tool place actions ks rest None h on =
    let later = some_made machine most (k + 1) tool place actions in
    (later.0, later.1, ap (λ ms. Err (first_or j ms)) h)

refused_from : (machine : MachineFile) (most k j : ℕ) (tool : Option Tool) (place : Point3) (actions : List Action) (ks : List ℕ) →
    AreUnclearedFrom machine most k tool place actions (j ∷ ks) → IsMadeFrom machine most k tool place actions (Err j)
refused_from machine most k j tool place [] ks h = absurd (one-none h)
  where
    one-none : j ∷ ks ≡ [] → ⊥
    one-none e = cc
refused_from machine most k j tool place (Mount new ∷ actions) ks h =
    refused_at_mount machine most k j new place actions ks h.0 (place_fault machine new (grid machine.step place)) h.2
    (λ e. refused_from machine most (k + 1) j new place actions ks (subst (AreUnclearedFrom machine most (k + 1) new place actions) e h.1))
refused_from machine most k j tool place (Move m ∷ actions) ks h =
    let later = refused_at_motion machine most k j tool (end_of m.way) actions ks h.1 h.0 h.4
    (λ e. refused_from machine most (k + 1) j tool (end_of m.way) actions ks (subst (AreUnclearedFrom machine most (k + 1) tool (end_of m.way) actions) e h.3)) in
    (h.0, later.0, h.2, later.1, later.2)
refused_from machine most k j tool place (_ ∷ actions) ks h = refused_from machine most (k + 1) j tool place actions ks h

pub first_refused : FirstUnclearedIsRefused
first_refused machine most commands k ks h = refused_from machine most 0 k None machine.start (actions_of commands) ks h

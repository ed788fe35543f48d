-- The commands before the one at which a setting is refused, and that one.
use Rattle.std.proofs.Common.{◌≡◌, ℕ, ◌+◌, ◌-◌, ◌<◌, ◌≤◌, ◌⊎◌, inl, inr, refl, ap, sym, subst, ◌∙◌, arith, List, [], ◌∷◌, ◌++◌, drop, append_assoc, Some, None, Ok}
use Rattle.std.proofs.Common.{Err}
use Rattle.std.specs.Prelude.{Option, Result, Bool, true, false}
use Rattle.std.specs.Option.{is_some, is_none}
use Rattle.ngc_fixed_length.specs.Grid.{grid}
use Rattle.ngc_fixed_length.specs.declared.points.Point3.{Point3}
use Rattle.ngc_machine_files.specs.Machine.{MachineFile}
use Rattle.ngc_machine_files.specs.declared.tools.Tool.{Tool}
use Rattle.ngc_commands.specs.declared.movement.Motion.{Motion}
use Rattle.ngc_commands.specs.declared.command.Action.{Action}
use Rattle.ngc_commands.specs.declared.command.Action.TheVariants.{Move, Mount}
use Rattle.ngc_commands.specs.declared.command.Command.{Command}
use Rattle.ngc_commands.specs.Movement.{actions_of, end_of}
use Rattle.ngc_certificate_text.specs.declared.piece.Piece.{Piece}
use Rattle.ngc_certificate_text.specs.Certificate.{Entry}
use Rattle.ngc_commands.specs.Reached.{after}
use Rattle.ngc_commands.specs.declared.reached.Reached.{Reached}
use Rattle.ngc_certificate.specs.PieceFault.{place_fault}
use Rattle.ngc_certificate.specs.Made.{with_pieces, unless_met, IsMadeFrom}
use Rattle.ngc_certificate.specs.Uncleared.{AreUncleared, AreUnclearedFrom, BeginsWith, LeadsPast, unless_cleared}

same_refusal : (n k : ℕ) → ◌≡◌ {A = Result (List Entry) ℕ} (Err n) (Err k) → n ≡ k
same_refusal n k e = cc

nothing_refused : (n : ℕ) (entries : List Entry) → ◌≡◌ {A = Result (List Entry) ℕ} (Err n) (Ok entries) → ⊥
nothing_refused n entries e = cc

-- a refusal is that of this motion, or of a later command
own_motion : (found : Option (List Piece)) (rest : Result (List Entry) ℕ) (k n : ℕ) → Err n ≡ with_pieces k found rest →
    ((is_some found ≡ false) × (n ≡ k)) ⊎ ((is_some found ≡ true) × (rest ≡ Err n))
own_motion None rest k n e = inl (refl, same_refusal n k e)
own_motion (Some pieces) (Ok entries) k n e = absurd (nothing_refused n (record { index = k; pieces = pieces } ∷ entries) e)
own_motion (Some pieces) (Err m) k n e = inr (refl, sym e)

-- or that of this tool change, or of a later command
own_change : (met : Option ℕ) (rest : Result (List Entry) ℕ) (k n : ℕ) → Err n ≡ unless_met met k rest →
    ((is_none met ≡ false) × (n ≡ k)) ⊎ ((is_none met ≡ true) × (rest ≡ Err n))
own_change None rest k n e = inr (refl, sym e)
own_change (Some fixture) rest k n e = inl (refl, same_refusal n k e)

-- no command before the first is refused
not_before : (machine : MachineFile) (most k n : ℕ) (tool : Option Tool) (place : Point3) (actions : List Action) →
    IsMadeFrom machine most k tool place actions (Err n) → k ≤ n
not_before machine most k n tool place [] made = absurd (nothing_refused n [] made)
not_before machine most k n tool place (Mount new ∷ actions) made =
    elim (own_change (place_fault machine new (grid machine.step place)) made.0 k n made.2) [
      | inl own ↦ omega (arith, own.1)
      | inr later ↦
          (let after = not_before machine most (k + 1) n new place actions (subst (IsMadeFrom machine most (k + 1) new place actions) later.1 made.1) in
          omega (arith, after))
    ]
not_before machine most k n tool place (Move m ∷ actions) made =
    elim (own_motion made.0 made.1 k n made.4) [
      | inl own ↦ omega (arith, own.1)
      | inr later ↦
          (let after = not_before machine most (k + 1) n tool (end_of m.way) actions
          (subst (IsMadeFrom machine most (k + 1) tool (end_of m.way) actions) later.1 made.3) in
          omega (arith, after))
    ]
not_before machine most k n tool place (_ ∷ actions) made =
    let after = not_before machine most (k + 1) n tool place actions made in
    omega (arith, after)

-- ---- a command before the one that is refused

abbrev GoesOn : MachineFile → ℕ → ℕ → Action → Reached → List Action → ℕ → Type 0
GoesOn machine most k a r actions n =
    IsMadeFrom machine most (k + 1) (after r a).tool (after r a).place actions (Err n) × LeadsPast machine most k a r true

past_motion : (machine : MachineFile) (most k n : ℕ) (m : Motion) (r : Reached) (actions : List Action) →
    IsMadeFrom machine most k r.tool r.place (Move m ∷ actions) (Err n) → k < n → GoesOn machine most k (Move m) r actions n
past_motion machine most k n m r actions made before =
    elim (own_motion made.0 made.1 k n made.4) [
      | inl own ↦ absurd (omega (arith, own.1, before))
      | inr later ↦ (
        subst (IsMadeFrom machine most (k + 1) r.tool (end_of m.way) actions) later.1 made.3,
        λ rest ks h. (made.0, ks, made.2, h, ap (λ (b : Bool). unless_cleared b k ks) (sym later.0)),
      )
    ]

past_change : (machine : MachineFile) (most k n : ℕ) (new : Option Tool) (r : Reached) (actions : List Action) →
    IsMadeFrom machine most k r.tool r.place (Mount new ∷ actions) (Err n) → k < n → GoesOn machine most k (Mount new) r actions n
past_change machine most k n new r actions made before =
    elim (own_change (place_fault machine new (grid machine.step r.place)) made.0 k n made.2) [
      | inl own ↦ absurd (omega (arith, own.1, before))
      | inr later ↦ (
        subst (IsMadeFrom machine most (k + 1) new r.place actions) later.1 made.1,
        λ rest ks h. (ks, h, ap (λ (b : Bool). unless_cleared b k ks) (sym later.0)),
      )
    ]

pub goes_past : (machine : MachineFile) (most k n : ℕ) (a : Action) (r : Reached) (actions : List Action) →
    IsMadeFrom machine most k r.tool r.place (a ∷ actions) (Err n) → k < n → GoesOn machine most k a r actions n
goes_past machine most k n (Mount new) r actions made before = past_change machine most k n new r actions made before
goes_past machine most k n (Move m) r actions made before = past_motion machine most k n m r actions made before
goes_past machine most k n _ r actions made before = (made, λ rest ks h. h)

-- ---- the command that is refused

refused_motion : (machine : MachineFile) (most k : ℕ) (m : Motion) (r : Reached) (actions : List Action) →
    IsMadeFrom machine most k r.tool r.place (Move m ∷ actions) (Err k) → LeadsPast machine most k (Move m) r false
refused_motion machine most k m r actions made =
    elim (own_motion made.0 made.1 k k made.4) [
      | inl own ↦ (λ rest ks h. (made.0, ks, made.2, h, ap (λ (b : Bool). unless_cleared b k ks) (sym own.0)))
      | inr later ↦
          (let after = not_before machine most (k + 1) k r.tool (end_of m.way) actions
          (subst (IsMadeFrom machine most (k + 1) r.tool (end_of m.way) actions) later.1 made.3) in
          absurd (omega (arith, after)))
    ]

refused_change : (machine : MachineFile) (most k : ℕ) (new : Option Tool) (r : Reached) (actions : List Action) →
    IsMadeFrom machine most k r.tool r.place (Mount new ∷ actions) (Err k) → LeadsPast machine most k (Mount new) r false
refused_change machine most k new r actions made =
    elim (own_change (place_fault machine new (grid machine.step r.place)) made.0 k k made.2) [
      | inl own ↦ (λ rest ks h. (ks, h, ap (λ (b : Bool). unless_cleared b k ks) (sym own.0)))
      | inr later ↦
          (let after = not_before machine most (k + 1) k new r.place actions
          (subst (IsMadeFrom machine most (k + 1) new r.place actions) later.1 made.1) in
          absurd (omega (arith, after)))
    ]

pub stands_refused : (machine : MachineFile) (most k : ℕ) (a : Action) (r : Reached) (actions : List Action) →
    IsMadeFrom machine most k r.tool r.place (a ∷ actions) (Err k) → LeadsPast machine most k a r false
stands_refused machine most k (Mount new) r actions made = refused_change machine most k new r actions made
stands_refused machine most k (Move m) r actions made = refused_motion machine most k m r actions made
stands_refused machine most k _ r actions made =
    let after = not_before machine most (k + 1) k r.tool r.place actions made in
    absurd (omega (arith, after))

-- no command is refused if none remains
pub none_refused : (machine : MachineFile) (most k n : ℕ) (tool : Option Tool) (place : Point3) (actions : List Action) → actions ≡ [] →
    IsMadeFrom machine most k tool place actions (Err n) → ⊥
none_refused machine most k n tool place [] none made = nothing_refused n [] made
none_refused machine most k n tool place (a ∷ actions) none made = absurd (some_left none)
  where
    some_left : a ∷ actions ≡ [] → ⊥
    some_left e = cc

-- ---- from one command to the next, in the list of those that aren't cleared

module _ (machine : MachineFile) (most i : ℕ) (commands : List Command) (action : Action) (old new : Reached)
    (split : actions_of (drop i commands) ≡ action ∷ actions_of (drop (i + 1) commands)) (is : new ≡ after old action) where
  abbrev later : List Action
  later = actions_of (drop (i + 1) commands)

  -- the commands that aren't cleared from a state on complete the list so far
  abbrev Completes : ℕ → Reached → List ℕ → Type 0
  Completes k r items = (ks : List ℕ) → AreUnclearedFrom machine most k r.tool r.place (actions_of (drop k commands)) ks →
      AreUncleared machine most commands (items ++ ks)

  -- and the commands from there on are refused at the last of those that are not tried
  abbrev Refuses : ℕ → Reached → ℕ → Type 0
  Refuses k r passed = (n : ℕ) → passed ≡ n + 1 → k ≤ n → IsMadeFrom machine most k r.tool r.place (actions_of (drop k commands)) (Err n)

  before : (clear : Bool) (ks : List ℕ) → LeadsPast machine most i action old clear → AreUnclearedFrom machine most (i + 1) new.tool new.place later ks
      → AreUnclearedFrom machine most i old.tool old.place (actions_of (drop i commands)) (unless_cleared clear i ks)
  before clear ks leads h =
      subst (λ (l : List Action). AreUnclearedFrom machine most i old.tool old.place l (unless_cleared clear i ks)) (sym split)
      (leads later ks (subst (λ (r : Reached). AreUnclearedFrom machine most (i + 1) r.tool r.place later ks) is h))

  refused_here : (passed n : ℕ) → Refuses i old passed → passed ≡ n + 1 → i ≤ n → IsMadeFrom machine most i old.tool old.place (action ∷ later) (Err n)
  refused_here passed n refuses e le =
      subst (λ (l : List Action). IsMadeFrom machine most i old.tool old.place l (Err n)) split (refuses n e le)

  pub cleared_next : (items : List ℕ) → LeadsPast machine most i action old true → Completes i old items → Completes (i + 1) new items
  cleared_next items leads completes ks h = completes ks (before true ks leads h)

  pub listed_next : (items more : List ℕ) → more ≡ items ++ (i ∷ []) → LeadsPast machine most i action old false → Completes i old items
      → Completes (i + 1) new more
  listed_next items more added leads completes ks h =
      subst (λ (l : List ℕ). AreUncleared machine most commands (l ++ ks)) (sym added)
      (subst (AreUncleared machine most commands) (sym (append_assoc items (i ∷ []) ks))
      (completes (i ∷ ks) (before false ks leads h)))

  pub refuses_next : (passed : ℕ) → Refuses i old passed → Refuses (i + 1) new passed
  refuses_next passed refuses n e le =
      subst (λ (r : Reached). IsMadeFrom machine most (i + 1) r.tool r.place later (Err n)) (sym is)
      (goes_past machine most i n action old later (refused_here passed n refuses e (omega (arith, le))) (omega (arith, le))).0

  pub passes_cleared : (passed : ℕ) → i + 1 < passed → Refuses i old passed → LeadsPast machine most i action old true
  passes_cleared passed less refuses =
      (goes_past machine most i (passed - 1) action old later
      (refused_here passed (passed - 1) refuses (omega (arith, less)) (omega (arith, less))) (omega (arith, less))).1

  pub passes_refused : (passed : ℕ) → passed ≡ i + 1 → Refuses i old passed → LeadsPast machine most i action old false
  passes_refused passed e refuses = stands_refused machine most i action old later (refused_here passed i refuses e (omega arith))

-- the first element of a list that grows at its end
pub begins_still : (k i : ℕ) (items more : List ℕ) → more ≡ items ++ (i ∷ []) → BeginsWith k items → BeginsWith k more
begins_still k i items more is begins = (begins.0 ++ (i ∷ []), is ∙ ap (λ (l : List ℕ). l ++ (i ∷ [])) begins.1)

pub begins_now : (k i : ℕ) (items more : List ℕ) → more ≡ items ++ (i ∷ []) → items ≡ [] → i ≡ k → BeginsWith k more
begins_now k i items more is none e = ([], is ∙ ap (λ (l : List ℕ). l ++ (i ∷ [])) none ∙ ap (λ (n : ℕ). n ∷ []) e)

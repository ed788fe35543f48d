-- If no refusal is found, all is valid, and if all is valid, no refusal is found.
use Rattle.std.proofs.Common.{◌≡◌, ℕ, ℤ, ◌+◌, refl, List, [], ◌∷◌, Some, None, true, false, not}
use Rattle.std.specs.Prelude.{Option, option_map, IsTrue, Bool, ◌&&◌, if◌then◌else◌}
use Rattle.std.specs.List.{list_all}
use Rattle.ngc_fixed_length.specs.declared.points.StepPos.{StepPos}
use Rattle.ngc_fixed_length.specs.declared.points.GridBox.{GridBox}
use Rattle.ngc_fixed_length.specs.Boxes.{holds_box, only}
use Rattle.ngc_machine_files.specs.declared.machine.Fixture.{Fixture}
use Rattle.ngc_machine_files.specs.declared.tools.Tool.{Tool}
use Rattle.ngc_machine_files.specs.Machine.{MachineFile}
use Rattle.ngc_commands.specs.declared.movement.Way.{Way}
use Rattle.ngc_collision.specs.Body.{clears, first_met, first_met_from, is_in_travel, IsClearAt}
use Rattle.ngc_certificate_text.specs.declared.piece.Cut.{Cut}
use Rattle.ngc_certificate_text.specs.declared.piece.Piece.{Piece}
use Rattle.ngc_certificate.specs.declared.fault.PieceFault.TheVariants.{Chain, NotCovered, OutsideTravel, MeetsFixture}
use Rattle.ngc_certificate.specs.declared.stretch.Stretch.{Stretch}
use Rattle.ngc_certificate.specs.Chain.{follows, stretch, first_cut, are_several}
use Rattle.ngc_certificate.specs.DerivedBox.{derived_box}
use Rattle.ngc_certificate.specs.PieceFault.{IsPieceValid, piece_fault, place_fault, AreValidFrom, ArePiecesValid, fault_from, pieces_fault, at_piece, ◌or◌}
use Rattle.ngc_certificate.specs.NoFault.{NoPiecesFaultIsValid, NoPlaceFaultIsClear}

-- ---- options and tests

pub some_none : {A : Type 0} (x : A) → Some x ≡ None → ⊥
some_none x h = cc

not_true : IsTrue false → ⊥
not_true h = cc

-- a test that had to pass, and the rest
passed : {A : Type 0} (a : Bool) (x : A) (rest : Option A) → (if not a then Some x else rest) ≡ None → IsTrue a × (rest ≡ None)
passed true x rest h = (refl, h)
passed false x rest h = absurd (some_none x h)

passes : {A : Type 0} (a : Bool) (x : A) (rest : Option A) → IsTrue a → rest ≡ None → (if not a then Some x else rest) ≡ None
passes true x rest a h = h
passes false x rest a h = absurd (not_true a)

pub no_map : {A B : Type 0} (f : A → B) (o : Option A) → option_map f o ≡ None → o ≡ None
no_map f (Some x) h = absurd (some_none (f x) h)
no_map f None h = refl

pub map_none : {A B : Type 0} (f : A → B) (o : Option A) → o ≡ None → option_map f o ≡ None
map_none f (Some x) h = absurd (some_none x h)
map_none f None h = refl

pub neither : {A : Type 0} (o later : Option A) → (o or later) ≡ None → (o ≡ None) × (later ≡ None)
neither (Some x) later h = absurd (some_none x h)
neither None later h = (refl, h)

pub both_none : {A : Type 0} (o later : Option A) → o ≡ None → later ≡ None → (o or later) ≡ None
both_none (Some x) later h rest = absurd (some_none x h)
both_none None later h rest = rest

-- ---- fixtures

next_clear : (c : Bool) (i : ℕ) (rest : Option ℕ) (r : Bool) → (if c then rest else Some i) ≡ None → (rest ≡ None → IsTrue r) → IsTrue (c && r)
next_clear true i rest r h f = f h
next_clear false i rest r h f = absurd (some_none i h)

next_unmet : (c : Bool) (i : ℕ) (rest : Option ℕ) (r : Bool) → IsTrue (c && r) → (IsTrue r → rest ≡ None) → (if c then rest else Some i) ≡ None
next_unmet true i rest r h f = f h
next_unmet false i rest r h f = absurd (not_true h)

none_met_from : (i : ℕ) (step : ℤ) (tool : Option Tool) (b : GridBox) (fs : List Fixture) → first_met_from i step tool b fs ≡ None →
    IsTrue (list_all (clears step tool b) fs)
none_met_from i step tool b [] h = refl
none_met_from i step tool b (f ∷ fs) h =
    next_clear (clears step tool b f) i (first_met_from (i + 1) step tool b fs) (list_all (clears step tool b) fs) h
    (λ e. none_met_from (i + 1) step tool b fs e)

clear_from : (i : ℕ) (step : ℤ) (tool : Option Tool) (b : GridBox) (fs : List Fixture) → IsTrue (list_all (clears step tool b) fs) →
    first_met_from i step tool b fs ≡ None
clear_from i step tool b [] h = refl
clear_from i step tool b (f ∷ fs) h =
    next_unmet (clears step tool b f) i (first_met_from (i + 1) step tool b fs) (list_all (clears step tool b) fs) h (λ e. clear_from (i + 1) step tool b fs e)

none_met : (machine : MachineFile) (tool : Option Tool) (b : GridBox) → first_met machine tool b ≡ None →
    IsTrue (list_all (clears machine.step tool b) machine.fixtures)
none_met machine tool b h = none_met_from 0 machine.step tool b machine.fixtures h

meets_none : (machine : MachineFile) (tool : Option Tool) (b : GridBox) → IsTrue (list_all (clears machine.step tool b) machine.fixtures) →
    first_met machine tool b ≡ None
meets_none machine tool b h = clear_from 0 machine.step tool b machine.fixtures h

pub clear_at : (machine : MachineFile) (tool : Option Tool) (p : StepPos) → place_fault machine tool p ≡ None → IsClearAt machine tool p
clear_at machine tool p h = none_met machine tool (only p) h

pub unmet_at : (machine : MachineFile) (tool : Option Tool) (p : StepPos) → IsClearAt machine tool p → place_fault machine tool p ≡ None
unmet_at machine tool p h = meets_none machine tool (only p) h

-- ---- a piece

piece_valid : (machine : MachineFile) (tool : Option Tool) (w : Way) (s : Stretch) (p : Piece) → piece_fault machine tool w s p ≡ None →
    IsPieceValid machine tool w s p
piece_valid machine tool w s p h =
    let a = passed (follows machine.step w s p.end) Chain _ h in
    let b = passed (holds_box p.bounds (derived_box machine.step w s p.end)) NotCovered _ a.1 in
    let c = passed (is_in_travel machine p.bounds) OutsideTravel _ b.1 in
    record { chain = a.0; covers = b.0; travel = c.0; clear = none_met machine tool p.bounds (no_map MeetsFixture (first_met machine tool p.bounds) c.1) }

piece_passes : (machine : MachineFile) (tool : Option Tool) (w : Way) (s : Stretch) (p : Piece) → IsPieceValid machine tool w s p →
    piece_fault machine tool w s p ≡ None
piece_passes machine tool w s p h =
    passes (follows machine.step w s p.end) Chain _ h.chain
    (passes (holds_box p.bounds (derived_box machine.step w s p.end)) NotCovered _ h.covers
    (passes (is_in_travel machine p.bounds) OutsideTravel _ h.travel
    (map_none MeetsFixture (first_met machine tool p.bounds) (meets_none machine tool p.bounds h.clear))))

-- ---- the pieces of a motion

valid_from : (machine : MachineFile) (tool : Option Tool) (w : Way) (several : Bool) (j : ℕ) (begin : Cut) (ps : List Piece) →
    fault_from machine tool w several j begin ps ≡ None → AreValidFrom machine tool w several begin ps
valid_from machine tool w several j begin [] h = absurd (some_none (at_piece j Chain) h)
valid_from machine tool w several j begin (p ∷ []) h =
    piece_valid machine tool w (stretch several true begin) p (no_map (at_piece j) (piece_fault machine tool w (stretch several true begin) p) h)
valid_from machine tool w several j begin (p ∷ q ∷ ps) h =
    let e = neither (option_map (at_piece j) (piece_fault machine tool w (stretch several false begin) p))
    (fault_from machine tool w several (j + 1) p.end (q ∷ ps)) h in (
      piece_valid machine tool w (stretch several false begin) p (no_map (at_piece j) (piece_fault machine tool w (stretch several false begin) p) e.0),
      valid_from machine tool w several (j + 1) p.end (q ∷ ps) e.1,
    )

passes_from : (machine : MachineFile) (tool : Option Tool) (w : Way) (several : Bool) (j : ℕ) (begin : Cut) (ps : List Piece) →
    AreValidFrom machine tool w several begin ps → fault_from machine tool w several j begin ps ≡ None
passes_from machine tool w several j begin [] h = absurd h
passes_from machine tool w several j begin (p ∷ []) h =
    map_none (at_piece j) (piece_fault machine tool w (stretch several true begin) p) (piece_passes machine tool w (stretch several true begin) p h)
passes_from machine tool w several j begin (p ∷ q ∷ ps) h =
    both_none (option_map (at_piece j) (piece_fault machine tool w (stretch several false begin) p)) (fault_from machine tool w several (j + 1) p.end (q ∷ ps))
    (map_none (at_piece j) (piece_fault machine tool w (stretch several false begin) p) (piece_passes machine tool w (stretch several false begin) p h.0))
    (passes_from machine tool w several (j + 1) p.end (q ∷ ps) h.1)

pub pieces_valid : (machine : MachineFile) (tool : Option Tool) (w : Way) (ps : List Piece) → pieces_fault machine tool w ps ≡ None →
    ArePiecesValid machine tool w ps
pieces_valid machine tool w ps h = valid_from machine tool w (are_several ps) 0 (first_cut w) ps h

pub pieces_pass : (machine : MachineFile) (tool : Option Tool) (w : Way) (ps : List Piece) → ArePiecesValid machine tool w ps →
    pieces_fault machine tool w ps ≡ None
pieces_pass machine tool w ps h = passes_from machine tool w (are_several ps) 0 (first_cut w) ps h

-- ---- the law

pub pieces_law : NoPiecesFaultIsValid
pieces_law = λ machine tool w pieces. (pieces_valid machine tool w pieces, pieces_pass machine tool w pieces)

pub place_law : NoPlaceFaultIsClear
place_law = λ machine tool p. (clear_at machine tool p, unmet_at machine tool p)

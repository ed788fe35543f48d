-- The certificate that is made is valid, and it is made if each motion clears undivided.
use Rattle.std.proofs.Common.{◌≡◌, inl, inr, ℕ, ◌+◌, ◌<◌, ◌≤◌, refl, ap, ap₂, sym, subst, ◌∙◌, arith, List, [], ◌∷◌, ◌++◌, map, length, Some, None, Ok, Err, true}
use Rattle.std.proofs.Common.{false}
use Rattle.std.specs.Prelude.{Option, Result, option_map, Bool, nat_lt}
use Rattle.std.specs.List.{find, filter}
use Rattle.std.specs.Option.{is_none}
use Rattle.std.proofs.lemmas.Bool.{cases_lt}
use Rattle.std.proofs.lemmas.Bool.Decides.{nat_tests}
use Rattle.ngc_fixed_length.specs.Grid.{grid}
use Rattle.ngc_fixed_length.specs.declared.points.Point3.{Point3}
use Rattle.ngc_machine_files.specs.Machine.{MachineFile}
use Rattle.ngc_machine_files.specs.declared.tools.Tool.{Tool}
use Rattle.ngc_commands.specs.declared.command.Command.{Command}
use Rattle.ngc_commands.specs.declared.movement.Motion.{Motion}
use Rattle.ngc_commands.specs.declared.movement.Way.{Way}
use Rattle.ngc_commands.specs.declared.movement.Way.TheVariants.{Line, Arc}
use Rattle.ngc_commands.specs.declared.command.Action.{Action}
use Rattle.ngc_commands.specs.declared.command.Action.TheVariants.{Move, Mount}
use Rattle.ngc_commands.specs.Movement.{actions_of, motion_indices, end_of}
use Rattle.ngc_certificate_text.specs.declared.piece.Piece.{Piece}
use Rattle.ngc_certificate_text.specs.declared.piece.Setting.{Setting}
use Rattle.ngc_certificate_text.specs.declared.piece.Setting.TheVariants.{Off, On}
use Rattle.ngc_certificate_text.specs.Certificate.{Entry, CertificateData}
use Rattle.ngc_certificate.specs.declared.fault.MakeFault.{MakeFault}
use Rattle.ngc_certificate.specs.declared.fault.MakeFault.TheVariants.{NotCleared, Memory}
use Rattle.ngc_certificate.specs.declared.maker.MotionRefusal.{MotionRefusal}
use Rattle.ngc_certificate.specs.declared.maker.MotionRefusal.TheVariants as refusals
use Rattle.ngc_certificate.specs.PieceFault.{pieces_fault, place_fault, ArePiecesValid}
use Rattle.ngc_certificate.specs.Traverses.{takes_any_way, most_pieces, AreWhole}
use Rattle.ngc_certificate.specs.Valid.{AreClearFrom, IsValid}
use Rattle.ngc_certificate.specs.Made.{pieces_of, cleared, with_entry, with_pieces, unless_met, MayFindPieces, IsMadeFrom, IsSettingMade, join_settings, from_start}
use Rattle.ngc_certificate.specs.Made.{IsMade, MadeResultIs, clears_from, clears_undivided}
use Rattle.ngc_certificate.specs.Making.{is_clear_in, SettingResultIs, fault_at}
use Rattle.ngc_certificate.proofs.NoFault.{clear_at}
use Rattle.ngc_certificate.proofs.TrueTests.{both}
use Rattle.ngc_certificate.proofs.Cleared.{found_valid, none_of}
use Rattle.ngc_certificate.proofs.SomeMade.{some_made}
use Rattle.ngc_certificate.proofs.TraverseLaws.{most_least, most_greatest, found_whole}

err_ok : {X E : Type 0} (x : X) (e : E) → Err e ≡ Ok x → ⊥
err_ok x e h = cc

same_ok : {X E : Type 0} (x y : X) (r : Result X E) → r ≡ Ok x → r ≡ Ok y → x ≡ y
same_ok x y r h i = cc

-- ---- the entries of a setting, and whether they are valid

record AreMade (machine : MachineFile) (k : ℕ) (tool : Option Tool) (place : Point3) (actions : List Action) (entries : List Entry) : Type 0 where
  indices : map (λ entry. entry.index) entries ≡ motion_indices k actions
  clear : AreClearFrom machine tool place actions entries
  whole : AreWhole machine actions entries

-- a motion before those that are made
record Fronted (k : ℕ) (pieces : List Piece) (rest : Result (List Entry) ℕ) (entries : List Entry) : Type 0 where
  later : List Entry
  made : rest ≡ Ok later
  all : entries ≡ record { index = k; pieces = pieces } ∷ later

entry_in_front : (k : ℕ) (pieces : List Piece) (rest : Result (List Entry) ℕ) (entries : List Entry) → with_entry k pieces rest ≡ Ok entries →
    Fronted k pieces rest entries
entry_in_front k pieces (Ok later) entries h =
    record { later = later; made = refl; all = same_ok entries (record { index = k; pieces = pieces } ∷ later) (with_entry k pieces (Ok later)) h refl }
entry_in_front k pieces (Err refused) entries h = absurd (err_ok entries refused h)

record Cleared (k : ℕ) (found : Option (List Piece)) (rest : Result (List Entry) ℕ) (entries : List Entry) : Type 0 where
  pieces : List Piece
  is : found ≡ Some pieces
  front : Fronted k pieces rest entries

pieces_in_front : (k : ℕ) (found : Option (List Piece)) (rest : Result (List Entry) ℕ) (entries : List Entry) → with_pieces k found rest ≡ Ok entries →
    Cleared k found rest entries
pieces_in_front k None rest entries h = absurd (err_ok entries k h)
pieces_in_front k (Some pieces) rest entries h = record { pieces = pieces; is = refl; front = entry_in_front k pieces rest entries h }

record Unmet (found : Option ℕ) (rest all : Result (List Entry) ℕ) : Type 0 where
  none : found ≡ None
  same : all ≡ rest

unmet : (found : Option ℕ) (k : ℕ) (rest : Result (List Entry) ℕ) (entries : List Entry) → unless_met found k rest ≡ Ok entries → Unmet found rest (Ok entries)
unmet None k rest entries h = record { none = refl; same = sym h }
unmet (Some fixture) k rest entries h = absurd (err_ok entries k h)

-- one more entry
entry_more : (machine : MachineFile) (k : ℕ) (tool : Option Tool) (place : Point3) (m : Motion) (actions : List Action) (pieces : List Piece)
    (later entries : List Entry) →
    ArePiecesValid machine tool m.way pieces → (takes_any_way machine m.pace ≡ true → length pieces ≤ 1) → AreMade machine (k + 1) tool (end_of m.way) actions later →
    entries ≡ record { index = k; pieces = pieces } ∷ later →
    AreMade machine k tool place (Move m ∷ actions) entries
entry_more machine k tool place m actions pieces later entries valid single rest all =
    subst (AreMade machine k tool place (Move m ∷ actions)) (sym all)
    (record { indices = ap (λ ks. k ∷ ks) rest.indices; clear = (valid, rest.clear); whole = (single, rest.whole) })

are_made : (machine : MachineFile) (most k : ℕ) (tool : Option Tool) (place : Point3) (actions : List Action) (says : Result (List Entry) ℕ)
    (entries : List Entry) → 1 ≤ most → most ≤ 65535 →
    IsMadeFrom machine most k tool place actions says → says ≡ Ok entries → AreMade machine k tool place actions entries
are_made machine most k tool place [] says entries least greatest made h =
    record { indices = ap (map (λ (entry : Entry). entry.index)) (same_ok entries [] says h made); clear = tt; whole = tt }
are_made machine most k tool place (Mount new ∷ actions) says entries least greatest made h =
    let u = unmet (place_fault machine new (grid machine.step place)) k made.0 entries (sym made.2 ∙ h) in
    let rest = are_made machine most (k + 1) new place actions made.0 entries least greatest made.1 (sym u.same) in
    record { indices = rest.indices; clear = (clear_at machine new (grid machine.step place) u.none, rest.clear); whole = rest.whole }
are_made machine most k tool place (Move m ∷ actions) says entries least greatest made h =
    let c = pieces_in_front k made.0 made.1 entries (sym made.4 ∙ h) in
    let rest = are_made machine most (k + 1) tool (end_of m.way) actions made.1 c.front.later least greatest made.3 c.front.made in
    entry_more machine k tool place m actions c.pieces c.front.later entries
    (found_valid machine (most_pieces machine most m.pace) tool m.way made.0 c.pieces (most_least machine most m.pace least)
    (most_greatest machine most m.pace greatest) made.2 c.is)
    (found_whole machine most tool m.way m.pace made.0 c.pieces made.2 c.is) rest c.front.all
are_made machine most k tool place (_ ∷ actions) says entries least greatest made h =
    let rest = are_made machine most (k + 1) tool place actions says entries least greatest made h in
    record { indices = rest.indices; clear = rest.clear; whole = rest.whole }

valid_setting : (machine : MachineFile) (most : ℕ) (commands : List Command) (entries : List Entry) → 1 ≤ most → most ≤ 65535 →
    place_fault machine None (grid machine.step machine.start) ≡ None → IsSettingMade machine most commands (Ok entries) → IsValid machine commands entries
valid_setting machine most commands entries least greatest start h =
    let made = are_made machine most 0 None machine.start (actions_of commands) (Ok entries) entries least greatest h refl in
    record { motions = made.indices; start = clear_at machine None (grid machine.step machine.start) start; clear = made.clear; whole = made.whole }

-- ---- motions that clear undivided

first_of : (most : ℕ) → 1 < most → nat_lt 1 most ≡ true
first_of most h = grind (arith, nat_tests)

undivided_first : (f : ℕ → List Piece) (test few : ℕ → Bool) (x : ℕ) (xs last : List ℕ) → few x ≡ true → test x ≡ true →
    option_map f (find test (filter few (x ∷ xs) ++ last)) ≡ Some (f x)
undivided_first f test few x xs last h i = simp (h, i)

only_one : (f : ℕ → List Piece) (test : ℕ → Bool) (x : ℕ) → test x ≡ true → option_map f (find test (x ∷ [])) ≡ Some (f x)
only_one f test x h = simp h

cleared_undivided : (machine : MachineFile) (most : ℕ) (tool : Option Tool) (w : Way) → 1 ≤ most → is_clear_in machine tool w 1 ≡ true →
    cleared machine most tool w ≡ Some (pieces_of machine.step w 1)
cleared_undivided machine most tool w least clear = elim (cases_lt 1 most) [
  | inl more ↦ undivided_first (pieces_of machine.step w) (is_clear_in machine tool w) (λ c. nat_lt c most) 1
      (2 ∷ 4 ∷ 8 ∷ 16 ∷ 32 ∷ 64 ∷ 128 ∷ 256 ∷ 512 ∷ 1024 ∷ 2048 ∷ 4096 ∷ 8192 ∷ 16384 ∷ 32768 ∷ []) (most ∷ []) (first_of most more) clear
  | inr one ↦
      let e : 1 ≡ most = omega (arith, least, one) in
      subst (λ n. cleared machine n tool w ≡ Some (pieces_of machine.step w 1)) e (only_one (pieces_of machine.step w) (is_clear_in machine tool w) 1 clear)
]

found_undivided : (machine : MachineFile) (most : ℕ) (tool : Option Tool) (w : Way) (found : Option (List Piece)) → 1 ≤ most →
    is_clear_in machine tool w 1 ≡ true →
    MayFindPieces machine most tool w found → found ≡ Some (pieces_of machine.step w 1)
found_undivided machine most tool (Line b e) found least clear may = may ∙ cleared_undivided machine most tool (Line b e) least clear
found_undivided machine most tool (Arc a) found least clear may = may.whole clear

-- a list, and no refusal
abbrev IsList : Result (List Entry) ℕ → Type 0
IsList r = (entries : List Entry) × (r ≡ Ok entries)

list_more : (k : ℕ) (pieces : List Piece) (found : Option (List Piece)) (rest : Result (List Entry) ℕ) → found ≡ Some pieces → IsList rest →
    IsList (with_pieces k found rest)
list_more k pieces found rest e r = (record { index = k; pieces = pieces } ∷ r.0, ap₂ (with_pieces k) e r.1)

all_made : (machine : MachineFile) (most k : ℕ) (tool : Option Tool) (place : Point3) (actions : List Action) (says : Result (List Entry) ℕ) → 1 ≤ most →
    clears_from machine tool place actions ≡ true → IsMadeFrom machine most k tool place actions says → IsList says
all_made machine most k tool place [] says least h made = ([], made)
all_made machine most k tool place (Mount new ∷ actions) says least h made =
    let e = both (is_none (place_fault machine new (grid machine.step place))) (clears_from machine new place actions) h in
    let rest = all_made machine most (k + 1) new place actions made.0 least e.1 made.1 in
    (rest.0, made.2 ∙ ap (λ o. unless_met o k made.0) (none_of (place_fault machine new (grid machine.step place)) e.0) ∙ rest.1)
all_made machine most k tool place (Move m ∷ actions) says least h made =
    let e = both (is_none (pieces_fault machine tool m.way (pieces_of machine.step m.way 1))) (clears_from machine tool (end_of m.way) actions) h in
    let rest = all_made machine most (k + 1) tool (end_of m.way) actions made.1 least e.1 made.3 in
    let more = list_more k (pieces_of machine.step m.way 1) made.0 made.1 (found_undivided machine (most_pieces machine most m.pace) tool m.way made.0
    (most_least machine most m.pace least) e.0 made.2) rest in
    (more.0, made.4 ∙ more.1)
all_made machine most k tool place (_ ∷ actions) says least h made = all_made machine most (k + 1) tool place actions says least h made

undivided_made : (machine : MachineFile) (most : ℕ) (off on : List Command) (says : Result CertificateData MakeFault) → 1 ≤ most →
    clears_undivided machine off ≡ true → clears_undivided machine on ≡ true → IsMade machine most off on says → (c : CertificateData) × (says ≡ Ok c)
undivided_made machine most off on says least a b made =
    let start = place_fault machine None (grid machine.step machine.start) in
    let e = both (is_none start) (clears_from machine None machine.start (actions_of off)) a in
    let f = both (is_none start) (clears_from machine None machine.start (actions_of on)) b in
    let p = all_made machine most 0 None machine.start (actions_of off) made.0 least e.1 made.2 in
    let q = all_made machine most 0 None machine.start (actions_of on) made.1 least f.1 made.3 in
    (record { off = p.0; on = q.0 }, made.4 ∙ ap (λ o. from_start o (join_settings made.0 made.1)) (none_of start e.0) ∙ ap₂ join_settings p.1 q.1)

-- if a setting is refused, not all motions clear undivided
refused_undivided : (machine : MachineFile) (most : ℕ) (off on : List Command) (s : Setting) (refusal : MotionRefusal) → 1 ≤ most →
    MadeResultIs {X = CertificateData} (λ c. c) (Err (fault_at s refusal)) (IsMade machine most off on) →
    clears_undivided machine off ≡ true → clears_undivided machine on ≡ true → fault_at s refusal ≡ Memory
refused_undivided machine most off on s (refusals.NotCleared k) least h a b =
    let m = undivided_made machine most off on (Err (NotCleared s k)) least a b h in
    absurd (err_ok m.0 (NotCleared s k) m.1)
refused_undivided machine most off on s refusals.Memory least h a b = refl

-- ---- the results of the maker, from the start and the settings

no_fixture : (machine : MachineFile) (clear : Bool) → clear ≡ is_none (place_fault machine None (grid machine.step machine.start)) → clear ≡ true →
    place_fault machine None (grid machine.step machine.start) ≡ None
no_fixture machine clear start here = none_of (place_fault machine None (grid machine.step machine.start)) (sym start ∙ here)

met_start : (found : Option ℕ) (rest : Result CertificateData MakeFault) → is_none found ≡ false → Err (NotCleared Off 0) ≡ from_start found rest
met_start None rest h = absurd (true≢false h)
  where
    true≢false : true ≡ false → ⊥
    true≢false k = cc
met_start (Some fixture) rest h = refl

pub start_refused : (machine : MachineFile) (most : ℕ) (off on : List Command) (clear : Bool) →
    clear ≡ is_none (place_fault machine None (grid machine.step machine.start)) → clear ≡ false →
    IsMade machine most off on (Err (NotCleared Off 0))
start_refused machine most off on clear start here =
    let first = some_made machine most 0 None machine.start (actions_of off) in
    let second = some_made machine most 0 None machine.start (actions_of on) in (
      first.0,
      second.0,
      first.1,
      second.1,
      met_start (place_fault machine None (grid machine.step machine.start)) (join_settings first.0 second.0) (sym start ∙ here),
    )

pub off_refused : {X : Type 0} (view : X → CertificateData) (machine : MachineFile) (most : ℕ) (off on : List Command) (clear : Bool) (refusal : MotionRefusal)
    (fault : MakeFault) →
    clear ≡ is_none (place_fault machine None (grid machine.step machine.start)) → clear ≡ true →
    SettingResultIs {X = List Entry} (λ m. m) (Err refusal) (IsSettingMade machine most off) → fault ≡ fault_at Off refusal →
    MadeResultIs view (Err fault) (IsMade machine most off on)
off_refused view machine most off on clear refusal fault start here h same =
    subst (λ f. MadeResultIs view (Err f) (IsMade machine most off on)) (sym same) (at_off refusal h)
  where
    at_off : (r : MotionRefusal) → SettingResultIs {X = List Entry} (λ m. m) (Err r) (IsSettingMade machine most off) →
        MadeResultIs view (Err (fault_at Off r)) (IsMade machine most off on)
    at_off (refusals.NotCleared k) made =
        let second = some_made machine most 0 None machine.start (actions_of on) in
        (Err k, second.0, made, second.1, ap (λ o. from_start o (join_settings (Err k) second.0)) (sym (no_fixture machine clear start here)))
    at_off refusals.Memory made = tt

pub on_refused : {X : Type 0} (view : X → CertificateData) (machine : MachineFile) (most : ℕ) (off on : List Command) (clear : Bool) (entries : List Entry)
    (refusal : MotionRefusal) (fault : MakeFault) →
    clear ≡ is_none (place_fault machine None (grid machine.step machine.start)) → clear ≡ true → IsSettingMade machine most off (Ok entries) →
    SettingResultIs {X = List Entry} (λ m. m) (Err refusal) (IsSettingMade machine most on) → fault ≡ fault_at On refusal →
    MadeResultIs view (Err fault) (IsMade machine most off on)
on_refused view machine most off on clear entries refusal fault start here first h same =
    subst (λ f. MadeResultIs view (Err f) (IsMade machine most off on)) (sym same) (at_on refusal h)
  where
    at_on : (r : MotionRefusal) → SettingResultIs {X = List Entry} (λ m. m) (Err r) (IsSettingMade machine most on) →
        MadeResultIs view (Err (fault_at On r)) (IsMade machine most off on)
    at_on (refusals.NotCleared k) made =
        (Ok entries, Err k, first, made, ap (λ o. from_start o (join_settings (Ok entries) (Err k))) (sym (no_fixture machine clear start here)))
    at_on refusals.Memory made = tt

-- a copy was made too
pub copied_made : (machine : MachineFile) (most : ℕ) (commands : List Command) (entries same : List Entry) → same ≡ entries →
    IsSettingMade machine most commands (Ok entries) → IsSettingMade machine most commands (Ok same)
copied_made machine most commands entries same is made = subst (λ (l : List Entry). IsSettingMade machine most commands (Ok l)) (sym is) made

pub both_made : (machine : MachineFile) (most : ℕ) (off on : List Command) (clear : Bool) (off_entries on_entries : List Entry) →
    clear ≡ is_none (place_fault machine None (grid machine.step machine.start)) → clear ≡ true →
    IsSettingMade machine most off (Ok off_entries) → IsSettingMade machine most on (Ok on_entries) →
    IsMade machine most off on (Ok (record { off = off_entries; on = on_entries }))
both_made machine most off on clear off_entries on_entries start here first second = (
  Ok off_entries,
  Ok on_entries,
  first,
  second,
  ap (λ o. from_start o (join_settings (Ok off_entries) (Ok on_entries))) (sym (no_fixture machine clear start here)),
)

pub off_undivided : (machine : MachineFile) (most : ℕ) (off on : List Command) (clear : Bool) (refusal : MotionRefusal) (fault : MakeFault) → 1 ≤ most →
    clear ≡ is_none (place_fault machine None (grid machine.step machine.start)) → clear ≡ true →
    SettingResultIs {X = List Entry} (λ m. m) (Err refusal) (IsSettingMade machine most off) → fault ≡ fault_at Off refusal →
    clears_undivided machine off ≡ true → clears_undivided machine on ≡ true → fault ≡ Memory
off_undivided machine most off on clear refusal fault least start here given same a b =
    same ∙ refused_undivided machine most off on Off refusal least
    (off_refused {X = CertificateData} (λ c. c) machine most off on clear refusal (fault_at Off refusal) start here given refl) a b

pub on_undivided : (machine : MachineFile) (most : ℕ) (off on : List Command) (clear : Bool) (entries : List Entry) (refusal : MotionRefusal) (fault : MakeFault) →
    1 ≤ most →
    clear ≡ is_none (place_fault machine None (grid machine.step machine.start)) → clear ≡ true →
    IsSettingMade machine most off (Ok entries) → SettingResultIs {X = List Entry} (λ m. m) (Err refusal) (IsSettingMade machine most on) →
    fault ≡ fault_at On refusal →
    clears_undivided machine off ≡ true → clears_undivided machine on ≡ true → fault ≡ Memory
on_undivided machine most off on clear entries refusal fault least start here first given same a b =
    same ∙ refused_undivided machine most off on On refusal least
    (on_refused {X = CertificateData} (λ c. c) machine most off on clear entries refusal (fault_at On refusal) start here first given refl) a b

pub both_valid : (machine : MachineFile) (most : ℕ) (off on : List Command) (clear : Bool) (off_entries on_entries : List Entry) → 1 ≤ most → most ≤ 65535 →
    clear ≡ is_none (place_fault machine None (grid machine.step machine.start)) → clear ≡ true →
    IsSettingMade machine most off (Ok off_entries) → IsSettingMade machine most on (Ok on_entries) →
    IsValid machine off off_entries × IsValid machine on on_entries
both_valid machine most off on clear off_entries on_entries least greatest start here first second =
    let e = no_fixture machine clear start here in
    (valid_setting machine most off off_entries least greatest e first, valid_setting machine most on on_entries least greatest e second)

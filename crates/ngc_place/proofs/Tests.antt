-- The tests of the pieces of a line and of the commands of a program, in order.
use Rattle.std.proofs.Common.{◌≡◌, ℕ, zero, suc, ◌+◌, ◌-◌, ◌*◌, ◌/◌, ◌<◌, ◌≤◌, refl, ap, ap₂, sym, ◌∙◌, List, [], ◌∷◌, ◌++◌, Some, None, true, false, arith, drop}
use mathlib.Core.Bool.{beq}
use Rattle.std.specs.Prelude.{Option, Bool, not, ◌&&◌, nat_lt, slice_index_or}
use Rattle.std.specs.List.{find, filter, slice_get}
use Rattle.std.specs.Option.{is_some, is_none}
use Rattle.std.proofs.Math.Seq.{drop-cons}
use Rattle.std.proofs.lemmas.List.{drop_all, drop_more}
use Rattle.std.proofs.lemmas.Option.{slice_get_within, get_or_from_slice_get}
use Rattle.std.proofs.lemmas.Bool.Decides.{nat_tests}
use Rattle.ngc_fixed_length.specs.Grid.{grid}
use Rattle.ngc_fixed_length.specs.declared.points.GridBox.{GridBox}
use Rattle.ngc_fixed_length.specs.declared.points.StepPos.{StepPos}
use Rattle.ngc_fixed_length.specs.declared.points.Point3.{Point3}
use Rattle.ngc_arc_geometry.specs.Shape.{ArcShape}
use Rattle.ngc_machine_files.specs.Machine.{MachineFile}
use Rattle.ngc_machine_files.specs.declared.tools.Tool.{Tool}
use Rattle.ngc_commands.specs.declared.command.Command.{Command}
use Rattle.ngc_commands.specs.declared.movement.Way.{Way}
use Rattle.ngc_commands.specs.declared.movement.Way.TheVariants.{Line, Arc}
use Rattle.ngc_commands.specs.declared.reached.Reached.{Reached}
use Rattle.ngc_commands.specs.Movement.{actions_of}
use Rattle.ngc_commands.specs.Reached.{after, at_start}
use Rattle.ngc_collision.specs.Body.{first_met}
use Rattle.ngc_certificate.specs.DerivedBox.{line_box}
use Rattle.ngc_certificate.specs.Made.{powers_of_two}
use Rattle.ngc_certificate.specs.PieceFault.{place_fault}
use Rattle.ngc_place.specs.Shifts.{end_moves, shifted, way_shifted}
use Rattle.ngc_place.specs.Holds.{is_clear, pieces_clear, way_clear, keeps_shape, place_clear, holds, holds_from, action_clear}
use Rattle.ngc_place.specs.Inside.{box_clear, piece_clear, line_clear, arc_clear, low_corner, high_corner}

-- ---- boxes

abbrev pub box_at : StepPos → StepPos → GridBox
box_at low high = record { low = low; high = high }

pub piece_is : (machine : MachineFile) (tool : Option Tool) (p q u v : Point3) (c k s t : ℕ) (low high : StepPos) (clear : Bool) → s ≡ 65536 * k / c →
    t ≡ 65536 * (k + 1) / c → low ≡ (line_box machine.step p q s t).low → high ≡ (line_box machine.step u v s t).high →
    clear ≡ box_clear machine tool (box_at low high) → clear ≡ piece_clear machine tool p q u v c k
unfolding piece_clear box_clear
piece_is machine tool p q u v c k s t low high clear from to below above test =
    test
    ∙ ap₂ (λ l h. is_clear machine tool (box_at l h)) (below ∙ ap₂ (λ x y. (line_box machine.step p q x y).low) from to)
    (above ∙ ap₂ (λ x y. (line_box machine.step u v x y).high) from to)

pub arc_is : (machine : MachineFile) (tool : Option Tool) (shifts : GridBox) (moves : Bool) (a : ArcShape) (low high : StepPos) (clear : Bool) →
    low ≡ low_corner machine.step shifts.low moves a → high ≡ high_corner machine.step shifts.high moves a →
    clear ≡ box_clear machine tool (box_at low high) → clear ≡ arc_clear machine tool shifts moves a
unfolding arc_clear box_clear low_corner high_corner
arc_is machine tool shifts moves a low high clear below above test = test ∙ ap₂ (λ l h. is_clear machine tool (box_at l h)) below above

pub none_is : (met : Option ℕ) (clear : Bool) → is_some met ≡ not clear → clear ≡ is_none met
none_is None true e = refl
none_is None false e = absurd (cc e)
none_is (Some x) true e = absurd (cc e)
none_is (Some x) false e = refl

pub place_is : (machine : MachineFile) (tool : Option Tool) (p q : Point3) (low high : StepPos) (met : Option ℕ) (clear : Bool) →
    low ≡ grid machine.step p → high ≡ grid machine.step q → met ≡ first_met machine tool (box_at low high) →
    is_some met ≡ not clear → clear ≡ place_clear machine tool p q
place_is machine tool p q low high met clear below above met_is test =
    none_is met clear test ∙ ap is_none (met_is ∙ ap₂ (λ l h. first_met machine tool (box_at l h)) below above)

-- ---- paths

pub line_is : (machine : MachineFile) (most : ℕ) (tool : Option Tool) (shifts : GridBox) (start end : Bool) (way : Way) (p q lp lq hp hq : Point3)
    (clear : Bool) → way ≡ Line p q → lp ≡ shifted machine.step shifts.low start p → lq ≡ shifted machine.step shifts.low end q →
    hp ≡ shifted machine.step shifts.high start p → hq ≡ shifted machine.step shifts.high end q → clear ≡ line_clear machine most tool lp lq hp hq →
    clear ≡ (keeps_shape start end way && way_clear machine most tool (way_shifted machine.step shifts.low start end way) (way_shifted machine.step shifts.high start end way))
unfolding line_clear
line_is machine most tool shifts start end way p q lp lq hp hq clear is a b d e test =
    test ∙ ap₂ (λ x y. line_clear machine most tool x y hp hq) a b
    ∙ ap₂ (λ x y. line_clear machine most tool (shifted machine.step shifts.low start p) (shifted machine.step shifts.low end q) x y) d e
    ∙ ap (λ w. keeps_shape start end w && way_clear machine most tool (way_shifted machine.step shifts.low start end w) (way_shifted machine.step shifts.high start end w))
    (sym is)

pub arc_kept : (machine : MachineFile) (most : ℕ) (tool : Option Tool) (shifts : GridBox) (start end : Bool) (way : Way) (a : ArcShape)
    (clear : Bool) → way ≡ Arc a → not (beq start end) ≡ false → clear ≡ arc_clear machine tool shifts end a →
    clear ≡ (keeps_shape start end way && way_clear machine most tool (way_shifted machine.step shifts.low start end way) (way_shifted machine.step shifts.high start end way))
unfolding arc_clear
arc_kept machine most tool shifts start end way a clear is same test =
    test ∙ by_case start end same
    ∙ ap (λ w. keeps_shape start end w && way_clear machine most tool (way_shifted machine.step shifts.low start end w) (way_shifted machine.step shifts.high start end w))
    (sym is)
  where
    by_case : (start end : Bool) → not (beq start end) ≡ false → arc_clear machine tool shifts end a ≡
        (keeps_shape start end (Arc a) && way_clear machine most tool (way_shifted machine.step shifts.low start end (Arc a)) (way_shifted machine.step shifts.high start end (Arc a)))
    by_case true true h = refl
    by_case false false h = refl
    by_case true false h = absurd (cc h)
    by_case false true h = absurd (cc h)

pub arc_bent : (machine : MachineFile) (most : ℕ) (tool : Option Tool) (shifts : GridBox) (start end : Bool) (way : Way) (a : ArcShape) →
    way ≡ Arc a → not (beq start end) ≡ true →
    false ≡ (keeps_shape start end way && way_clear machine most tool (way_shifted machine.step shifts.low start end way) (way_shifted machine.step shifts.high start end way))
arc_bent machine most tool shifts start end way a is other =
    by_case start end other
    ∙ ap (λ w. keeps_shape start end w && way_clear machine most tool (way_shifted machine.step shifts.low start end w) (way_shifted machine.step shifts.high start end w))
    (sym is)
  where
    by_case : (start end : Bool) → not (beq start end) ≡ true → false ≡
        (keeps_shape start end (Arc a) && way_clear machine most tool (way_shifted machine.step shifts.low start end (Arc a)) (way_shifted machine.step shifts.high start end (Arc a)))
    by_case true true h = absurd (cc h)
    by_case false false h = absurd (cc h)
    by_case true false h = refl
    by_case false true h = refl

-- ---- pieces

pub next_piece : (machine : MachineFile) (tool : Option Tool) (p q u v : Point3) (c k : ℕ) → k < c →
    pieces_clear machine tool p q u v c k (c - k) ≡ (piece_clear machine tool p q u v c k && pieces_clear machine tool p q u v c (k + 1) (c - (k + 1)))
unfolding piece_clear
next_piece machine tool p q u v c k h =
    let e : c - k ≡ suc (c - (k + 1)) = omega arith in
    ap (pieces_clear machine tool p q u v c k) e

pub piece_passes : (machine : MachineFile) (tool : Option Tool) (p q u v : Point3) (c k : ℕ) (clear : Bool) → k < c →
    clear ≡ piece_clear machine tool p q u v c k → clear ≡ true →
    pieces_clear machine tool p q u v c k (c - k) ≡ pieces_clear machine tool p q u v c (k + 1) (c - (k + 1))
piece_passes machine tool p q u v c k clear h test is =
    next_piece machine tool p q u v c k h
    ∙ ap (λ b. b && pieces_clear machine tool p q u v c (k + 1) (c - (k + 1))) (sym test ∙ is)

pub piece_fails : (machine : MachineFile) (tool : Option Tool) (p q u v : Point3) (c k : ℕ) (clear : Bool) → k < c →
    clear ≡ piece_clear machine tool p q u v c k → clear ≡ false →
    pieces_clear machine tool p q u v c k (c - k) ≡ false
piece_fails machine tool p q u v c k clear h test is =
    next_piece machine tool p q u v c k h
    ∙ ap (λ b. b && pieces_clear machine tool p q u v c (k + 1) (c - (k + 1))) (sym test ∙ is)

pub no_piece : (machine : MachineFile) (tool : Option Tool) (p q u v : Point3) (c k : ℕ) → c ≤ k → pieces_clear machine tool p q u v c k (c - k) ≡ true
no_piece machine tool p q u v c k h =
    let e : c - k ≡ 0 = omega arith in
    ap (pieces_clear machine tool p q u v c k) e

-- ---- numbers of pieces

-- a number of pieces passes, if these powers of two remain
abbrev pub found_among : (ℕ → Bool) → ℕ → List ℕ → Bool
found_among test most powers = is_some (find test (filter (λ c. nat_lt c most) powers ++ most ∷ []))

-- at index i of the powers of two, which is the next one
next : (i : ℕ) → i < 16 → drop i powers_of_two ≡ slice_index_or powers_of_two i 0 ∷ drop (i + 1) powers_of_two
next i h = let e : i + 1 ≡ suc i = omega arith in drop-cons powers_of_two i 0 h ∙ ap (λ n. slice_index_or powers_of_two i 0 ∷ drop n powers_of_two) (sym e)

skip : (test few : ℕ → Bool) (x : ℕ) (xs last : List ℕ) → few x ≡ false →
    is_some (find test (filter few (x ∷ xs) ++ last)) ≡ is_some (find test (filter few xs ++ last))
skip test few x xs last h = simp h

fails : (test few : ℕ → Bool) (x : ℕ) (xs last : List ℕ) → few x ≡ true → test x ≡ false →
    is_some (find test (filter few (x ∷ xs) ++ last)) ≡ is_some (find test (filter few xs ++ last))
fails test few x xs last h i = simp (h, i)

found : (test few : ℕ → Bool) (x : ℕ) (xs last : List ℕ) → few x ≡ true → test x ≡ true →
    is_some (find test (filter few (x ∷ xs) ++ last)) ≡ true
found test few x xs last h i = simp (h, i)

at_last : (test : ℕ → Bool) (x : ℕ) (clear : Bool) → clear ≡ test x → is_some (find test (x ∷ [])) ≡ clear
at_last test x true h = simp (sym h)
at_last test x false h = simp (sym h)

too_many : (most x : ℕ) → most ≤ x → nat_lt x most ≡ false
too_many most x h = grind (arith, nat_tests)

few_enough : (most x : ℕ) → x < most → nat_lt x most ≡ true
few_enough most x h = grind (arith, nat_tests)

pub skipped : (test : ℕ → Bool) (most i : ℕ) → i < 16 → most ≤ slice_index_or powers_of_two i 0 →
    found_among test most (drop i powers_of_two) ≡ found_among test most (drop (i + 1) powers_of_two)
skipped test most i h large =
    let x = slice_index_or powers_of_two i 0 in
    ap (found_among test most) (next i h) ∙ skip test (λ c. nat_lt c most) x (drop (i + 1) powers_of_two) (most ∷ []) (too_many most x large)

pub refused : (test : ℕ → Bool) (most i n : ℕ) (clear : Bool) → i < 16 → slice_index_or powers_of_two i 0 < most → n ≡ slice_index_or powers_of_two i 0 →
    clear ≡ test n → clear ≡ false →
    found_among test most (drop i powers_of_two) ≡ found_among test most (drop (i + 1) powers_of_two)
refused test most i n clear h few same tested is =
    let x = slice_index_or powers_of_two i 0 in
    ap (found_among test most) (next i h)
    ∙ fails test (λ c. nat_lt c most) x (drop (i + 1) powers_of_two) (most ∷ []) (few_enough most x few) (ap test (sym same) ∙ sym tested ∙ is)

pub taken : (test : ℕ → Bool) (most i n : ℕ) (clear : Bool) → i < 16 → slice_index_or powers_of_two i 0 < most → n ≡ slice_index_or powers_of_two i 0 →
    clear ≡ test n → clear ≡ true → found_among test most (drop i powers_of_two) ≡ true
taken test most i n clear h few same tested is =
    let x = slice_index_or powers_of_two i 0 in
    ap (found_among test most) (next i h)
    ∙ found test (λ c. nat_lt c most) x (drop (i + 1) powers_of_two) (most ∷ []) (few_enough most x few) (ap test (sym same) ∙ sym tested ∙ is)

pub last_try : (test : ℕ → Bool) (most i n : ℕ) (clear : Bool) → 16 ≤ i → n ≡ most → clear ≡ test n →
    found_among test most (drop i powers_of_two) ≡ clear
last_try test most i n clear h same tested =
    ap (found_among test most) (drop_all i powers_of_two h) ∙ at_last test most clear (tested ∙ ap test same)

-- a line in c pieces
abbrev pub in_pieces : MachineFile → Option Tool → Point3 → Point3 → Point3 → Point3 → ℕ → Bool
in_pieces machine tool p q u v c = pieces_clear machine tool p q u v c 0 c

pub first_tries : (machine : MachineFile) (most : ℕ) (tool : Option Tool) (p q u v : Point3) →
    line_clear machine most tool p q u v ≡ found_among (in_pieces machine tool p q u v) most powers_of_two
unfolding line_clear
first_tries machine most tool p q u v = refl

-- ---- commands

pub marked : (marks : List Bool) (i : ℕ) (mark : Bool) → slice_get marks i ≡ Some mark → drop i marks ≡ mark ∷ drop (i + 1) marks
marked marks i mark h =
    drop_more marks i mark (slice_get_within marks i mark h) ∙ ap (λ m. m ∷ drop (i + 1) marks) (get_or_from_slice_get marks i mark mark h)

pub unmarked : (marks : List Bool) (i : ℕ) → slice_get marks i ≡ None → drop i marks ≡ []
unmarked [] i h = drop_all i [] (omega arith)
unmarked (m ∷ marks) zero h = absurd (cc h)
unmarked (m ∷ marks) (suc i) h = unmarked marks i h

abbrev pub rest_holds : MachineFile → ℕ → GridBox → Reached → Bool → List Bool → List Command → ℕ → Bool
rest_holds machine most shifts r start moving commands i = holds_from machine most shifts r start (drop i moving) (actions_of (drop i commands))

split : (machine : MachineFile) (most : ℕ) (shifts : GridBox) (r : Reached) (start end : Bool) (moving : List Bool) (commands : List Command) (i : ℕ)
    (command : Command) (clear : Bool) →
    actions_of (drop i commands) ≡ command.action ∷ actions_of (drop (i + 1) commands) → slice_get moving i ≡ Some end →
    clear ≡ action_clear machine most shifts r start end command.action →
    rest_holds machine most shifts r start moving commands i
    ≡ (clear && rest_holds machine most shifts (after r command.action) (end_moves start end command.action) moving commands (i + 1))
split machine most shifts r start end moving commands i command clear first mark test =
    ap₂ (holds_from machine most shifts r start) (marked moving i end mark) first
    ∙ ap (λ b. b && rest_holds machine most shifts (after r command.action) (end_moves start end command.action) moving commands (i + 1)) (sym test)

pub command_passes : (machine : MachineFile) (most : ℕ) (shifts : GridBox) (r : Reached) (start end : Bool) (moving : List Bool) (commands : List Command)
    (i : ℕ) (command : Command) (clear : Bool) →
    actions_of (drop i commands) ≡ command.action ∷ actions_of (drop (i + 1) commands) → slice_get moving i ≡ Some end →
    clear ≡ action_clear machine most shifts r start end command.action → clear ≡ true →
    rest_holds machine most shifts r start moving commands i
    ≡ rest_holds machine most shifts (after r command.action) (end_moves start end command.action) moving commands (i + 1)
command_passes machine most shifts r start end moving commands i command clear first mark test is =
    split machine most shifts r start end moving commands i command clear first mark test
    ∙ ap (λ b. b && rest_holds machine most shifts (after r command.action) (end_moves start end command.action) moving commands (i + 1)) is

pub command_fails : (machine : MachineFile) (most : ℕ) (shifts : GridBox) (r : Reached) (start end : Bool) (moving : List Bool) (commands : List Command)
    (i : ℕ) (command : Command) (clear : Bool) →
    actions_of (drop i commands) ≡ command.action ∷ actions_of (drop (i + 1) commands) → slice_get moving i ≡ Some end →
    clear ≡ action_clear machine most shifts r start end command.action → clear ≡ false →
    rest_holds machine most shifts r start moving commands i ≡ false
command_fails machine most shifts r start end moving commands i command clear first mark test is =
    split machine most shifts r start end moving commands i command clear first mark test
    ∙ ap (λ b. b && rest_holds machine most shifts (after r command.action) (end_moves start end command.action) moving commands (i + 1)) is

pub mark_missing : (machine : MachineFile) (most : ℕ) (shifts : GridBox) (r : Reached) (start : Bool) (moving : List Bool) (commands : List Command)
    (i : ℕ) (command : Command) →
    actions_of (drop i commands) ≡ command.action ∷ actions_of (drop (i + 1) commands) → slice_get moving i ≡ None →
    rest_holds machine most shifts r start moving commands i ≡ false
mark_missing machine most shifts r start moving commands i command first mark =
    ap₂ (holds_from machine most shifts r start) (unmarked moving i mark) first

pub none_left_holds : (machine : MachineFile) (most : ℕ) (shifts : GridBox) (r : Reached) (start : Bool) (moving : List Bool) (commands : List Command)
    (i : ℕ) → actions_of (drop i commands) ≡ [] → rest_holds machine most shifts r start moving commands i ≡ true
none_left_holds machine most shifts r start moving commands i e = ap (holds_from machine most shifts r start (drop i moving)) e ∙ nothing (drop i moving)
  where
    nothing : (marks : List Bool) → holds_from machine most shifts r start marks [] ≡ true
    nothing [] = refl
    nothing (m ∷ marks) = refl

-- ---- the start point

abbrev false_when : Bool → Bool
false_when true = false
false_when false = true

none_when : (fault : Option ℕ) (some b : Bool) → some ≡ is_some fault → some ≡ b → is_none fault ≡ (false_when b)
none_when None some true e f = absurd (cc (e, f))
none_when None some false e f = refl
none_when (Some x) some true e f = refl
none_when (Some x) some false e f = absurd (cc (e, f))

pub start_clear : (machine : MachineFile) (most : ℕ) (shifts : GridBox) (moving : List Bool) (commands : List Command) (p : StepPos) (fault : Option ℕ)
    (some : Bool) → p ≡ grid machine.step machine.start → fault ≡ place_fault machine None p → some ≡ is_some fault → some ≡ false →
    holds machine most shifts moving commands ≡ rest_holds machine most shifts (at_start machine) false moving commands 0
start_clear machine most shifts moving commands p fault some at is test clear =
    ap (λ b. b && rest_holds machine most shifts (at_start machine) false moving commands 0)
    (ap is_none (sym (is ∙ ap (place_fault machine None) at)) ∙ none_when fault some false test clear)

pub start_met : (machine : MachineFile) (most : ℕ) (shifts : GridBox) (moving : List Bool) (commands : List Command) (p : StepPos) (fault : Option ℕ)
    (some : Bool) → p ≡ grid machine.step machine.start → fault ≡ place_fault machine None p → some ≡ is_some fault → some ≡ true →
    holds machine most shifts moving commands ≡ false
start_met machine most shifts moving commands p fault some at is test met =
    ap (λ b. b && rest_holds machine most shifts (at_start machine) false moving commands 0)
    (ap is_none (sym (is ∙ ap (place_fault machine None) at)) ∙ none_when fault some true test met)

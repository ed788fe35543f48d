-- The pieces with which a motion is cleared.
use Rattle.std.proofs.Common.{◌≡◌, ℕ, ◌≤◌, refl, ap, sym, subst, ◌∙◌, arith, List, [], ◌∷◌, ◌++◌, length, Some, None, true, false}
use Rattle.std.specs.Prelude.{Option, option_map, IsTrue, Bool, cond, nat_le, nat_lt, ◌&&◌}
use Rattle.std.specs.List.{find, filter, list_all}
use Rattle.std.specs.Option.{is_none}
use Rattle.std.proofs.lemmas.Bool.Decides.{nat_tests}
use Rattle.ngc_fixed_length.specs.Length.{IsStep}
use Rattle.ngc_fixed_length.specs.declared.points.Point3.{Point3}
use Rattle.ngc_machine_files.specs.Machine.{MachineFile}
use Rattle.ngc_machine_files.specs.Ranges.{IsTravel}
use Rattle.ngc_machine_files.specs.declared.tools.Tool.{Tool}
use Rattle.ngc_arc_geometry.specs.Shape.{ArcShape}
use Rattle.ngc_commands.specs.declared.movement.Way.{Way}
use Rattle.ngc_commands.specs.declared.movement.Way.TheVariants.{Line, Arc}
use Rattle.ngc_certificate_text.specs.declared.piece.Piece.{Piece}
use Rattle.ngc_certificate_text.specs.Certificate.{IsEntry, good_piece}
use Rattle.ngc_certificate.specs.PieceFault.{pieces_fault, ArePiecesValid}
use Rattle.ngc_certificate.specs.Made.{pieces_of, powers_of_two, tries, cleared, IsCutClear, MayCut, MayHavePieces, MayFindPieces}
use Rattle.ngc_certificate.specs.Making.{is_clear_in, pieces_where}
use Rattle.ngc_certificate.proofs.Division.{few, count_of}
use Rattle.ngc_certificate.specs.Planned.{IsDividedIfLine}
use Rattle.ngc_certificate.proofs.NoFault.{pieces_valid, some_none}
use Rattle.ngc_certificate.proofs.TrueTests.{both, and, no_truth}
use Rattle.ngc_certificate.proofs.GoodPieces.{pieces_good}

-- ---- the first that passes

record Found (f : ℕ → List Piece) (test good : ℕ → Bool) (pieces : List Piece) : Type 0 where
  count : ℕ
  fits : IsTrue (good count)
  passes : test count ≡ true
  made : pieces ≡ f count

same_some : (x y : List Piece) → Some x ≡ Some y → x ≡ y
same_some x y h = cc

first_or_later : (f : ℕ → List Piece) (test good : ℕ → Bool) (x : ℕ) (rest : Option ℕ) (pieces : List Piece) (b : Bool) → test x ≡ b → IsTrue (good x) →
    (option_map f rest ≡ Some pieces → Found f test good pieces) → option_map f (cond b (Some x) rest) ≡ Some pieces → Found f test good pieces
first_or_later f test good x rest pieces true e g later h = record { count = x; fits = g; passes = e; made = sym (same_some (f x) pieces h) }
first_or_later f test good x rest pieces false e g later h = later h

found_in : (f : ℕ → List Piece) (test good : ℕ → Bool) (xs : List ℕ) (pieces : List Piece) → IsTrue (list_all good xs) →
    option_map f (find test xs) ≡ Some pieces → Found f test good pieces
found_in f test good [] pieces g h = absurd (some_none pieces (sym h))
found_in f test good (x ∷ xs) pieces g h =
    let e = both (good x) (list_all good xs) g in
    first_or_later f test good x (find test xs) pieces (test x) refl e.0 (found_in f test good xs pieces e.1) h

-- ---- each number that is tried is at least 1, and at most what a motion may have

abbrev is_count : ℕ → Bool
is_count c = nat_le 1 c && nat_le c 65535

keep : (good few : ℕ → Bool) (x : ℕ) (rest : List ℕ) (b : Bool) → IsTrue (good x) → IsTrue (list_all good rest) →
    IsTrue (list_all good (cond b (x ∷ rest) rest))
keep good few x rest true g r = and _ _ g r
keep good few x rest false g r = r

all_kept : (good few : ℕ → Bool) (xs : List ℕ) → IsTrue (list_all good xs) → IsTrue (list_all good (filter few xs))
all_kept good few [] g = refl
all_kept good few (x ∷ xs) g =
    let e = both (good x) (list_all good xs) g in
    keep good few x (filter few xs) (few x) e.0 (all_kept good few xs e.1)

all_behind : (good : ℕ → Bool) (xs ys : List ℕ) → IsTrue (list_all good xs) → IsTrue (list_all good ys) → IsTrue (list_all good (xs ++ ys))
all_behind good [] ys g h = h
all_behind good (x ∷ xs) ys g h =
    let e = both (good x) (list_all good xs) g in
    and _ _ e.0 (all_behind good xs ys e.1 h)

counts : (most : ℕ) → 1 ≤ most → most ≤ 65535 → IsTrue (list_all is_count (tries most))
counts most least greatest =
    let last : IsTrue (is_count most) = grind (arith, nat_tests) in
    all_behind is_count (filter (λ c. nat_lt c most) powers_of_two) (most ∷ [])
    (all_kept is_count (λ c. nat_lt c most) powers_of_two refl) (and (is_count most) true last refl)

at_least : (c : ℕ) → IsTrue (is_count c) → 1 ≤ c
at_least c h = grind (arith, nat_tests)

at_most : (c : ℕ) → IsTrue (is_count c) → c ≤ 65535
at_most c h = grind (arith, nat_tests)

-- ---- what clears

abbrev IsCleared : MachineFile → ℕ → Option Tool → Way → List Piece → Type 0
IsCleared machine most tool w pieces = Found (pieces_of machine.step w) (is_clear_in machine tool w) is_count pieces

cleared_is : (machine : MachineFile) (most : ℕ) (tool : Option Tool) (w : Way) (pieces : List Piece) → 1 ≤ most → most ≤ 65535 →
    cleared machine most tool w ≡ Some pieces → IsCleared machine most tool w pieces
cleared_is machine most tool w pieces least greatest h =
    found_in (pieces_of machine.step w) (is_clear_in machine tool w) is_count (tries most) pieces (counts most least greatest) h

pub none_of : {A : Type 0} (o : Option A) → is_none o ≡ true → o ≡ None
none_of None h = refl
none_of (Some x) h = absurd (no_truth h)

pub cleared_valid : (machine : MachineFile) (most : ℕ) (tool : Option Tool) (w : Way) (pieces : List Piece) → 1 ≤ most → most ≤ 65535 →
    cleared machine most tool w ≡ Some pieces → ArePiecesValid machine tool w pieces
cleared_valid machine most tool w pieces least greatest h =
    let c = cleared_is machine most tool w pieces least greatest h in
    subst (ArePiecesValid machine tool w) (sym c.made)
    (pieces_valid machine tool w (pieces_of machine.step w c.count) (none_of (pieces_fault machine tool w (pieces_of machine.step w c.count)) c.passes))

-- a certificate may contain them
pub cleared_good : (machine : MachineFile) (most : ℕ) (tool : Option Tool) (w : Way) (pieces : List Piece) → IsStep machine.step →
    IsTravel machine.step machine.low machine.high machine.start →
    1 ≤ most → most ≤ 65535 → cleared machine most tool w ≡ Some pieces → IsTrue (list_all good_piece pieces)
cleared_good machine most tool w pieces step travel least greatest h =
    let c = cleared_is machine most tool w pieces least greatest h in
    let valid = pieces_valid machine tool w (pieces_of machine.step w c.count)
    (none_of (pieces_fault machine tool w (pieces_of machine.step w c.count)) c.passes) in
    subst (λ (ps : List Piece). IsTrue (list_all good_piece ps)) (sym c.made)
    (pieces_good machine tool w c.count step travel (at_least c.count c.fits) (at_most c.count c.fits) valid)

-- and an arc in one piece that clears
pub whole_good : (machine : MachineFile) (tool : Option Tool) (a : ArcShape) → IsStep machine.step →
    IsTravel machine.step machine.low machine.high machine.start →
    is_clear_in machine tool (Arc a) 1 ≡ true → IsTrue (list_all good_piece (pieces_of machine.step (Arc a) 1))
whole_good machine tool a step travel clear =
    let whole = pieces_of machine.step (Arc a) 1 in
    pieces_good machine tool (Arc a) 1 step travel (omega arith) (omega arith)
    (pieces_valid machine tool (Arc a) whole (none_of (pieces_fault machine tool (Arc a) whole) clear))

-- ---- what is found

true≢false : true ≡ false → ⊥
true≢false h = cc

-- an arc that one piece clears, and one for which nothing is found
pub whole_stands : (machine : MachineFile) (most : ℕ) (tool : Option Tool) (a : ArcShape) (pieces : List Piece) → pieces ≡ pieces_of machine.step (Arc a) 1 →
    is_clear_in machine tool (Arc a) 1 ≡ true →
    MayHavePieces machine most tool a (Some pieces)
whole_stands machine most tool a pieces same clear =
    record { whole = λ h. ap (λ (ps : List Piece). Some ps) same; cut = λ h. absurd (true≢false (sym clear ∙ h)) }

pub none_stands : (machine : MachineFile) (most : ℕ) (tool : Option Tool) (a : ArcShape) → is_clear_in machine tool (Arc a) 1 ≡ false →
    MayHavePieces machine most tool a None
none_stands machine most tool a refused = record { whole = λ h. absurd (true≢false (sym h ∙ refused)); cut = λ h. tt }

-- one that is cut, or for which no cuts are found
pub cut_stands : (machine : MachineFile) (most : ℕ) (tool : Option Tool) (a : ArcShape) (clear : Bool) (pieces : List Piece) →
    is_clear_in machine tool (Arc a) 1 ≡ false →
    (clear ≡ true → IsCutClear machine most tool a pieces) → MayHavePieces machine most tool a (pieces_where clear pieces)
cut_stands machine most tool a true pieces refused h = record { whole = λ whole. absurd (true≢false (sym whole ∙ refused)); cut = λ e. h refl }
cut_stands machine most tool a false pieces refused h = none_stands machine most tool a refused

pub line_found : (machine : MachineFile) (most : ℕ) (tool : Option Tool) (w : Way) (b e : Point3) (found : Option (List Piece)) → w ≡ Line b e →
    cleared machine most tool w ≡ found → MayFindPieces machine most tool w found
line_found machine most tool w b e found is h =
    subst (λ v. MayFindPieces machine most tool v found) (sym is) (subst (λ v. found ≡ cleared machine most tool v) is (sym h))

arc_valid : (machine : MachineFile) (most : ℕ) (tool : Option Tool) (a : ArcShape) (found : Option (List Piece)) (pieces : List Piece) (clear : Bool) →
    is_clear_in machine tool (Arc a) 1 ≡ clear →
    MayHavePieces machine most tool a found → found ≡ Some pieces → ArePiecesValid machine tool (Arc a) pieces
arc_valid machine most tool a found pieces true e may is =
    let whole = pieces_of machine.step (Arc a) 1 in
    subst (ArePiecesValid machine tool (Arc a)) (same_some whole pieces (sym (may.whole e) ∙ is))
    (pieces_valid machine tool (Arc a) whole (none_of (pieces_fault machine tool (Arc a) whole) e))
arc_valid machine most tool a found pieces false e may is =
    let cut = subst (MayCut machine most tool a) is (may.cut e) in
    pieces_valid machine tool (Arc a) pieces cut.clear

pub found_valid : (machine : MachineFile) (most : ℕ) (tool : Option Tool) (w : Way) (found : Option (List Piece)) (pieces : List Piece) → 1 ≤ most →
    most ≤ 65535 →
    MayFindPieces machine most tool w found → found ≡ Some pieces → ArePiecesValid machine tool w pieces
found_valid machine most tool (Line b e) found pieces least greatest may is = cleared_valid machine most tool (Line b e) pieces least greatest (sym may ∙ is)
found_valid machine most tool (Arc a) found pieces least greatest may is =
    arc_valid machine most tool a found pieces (is_clear_in machine tool (Arc a) 1) refl may is

arc_few : (machine : MachineFile) (most : ℕ) (tool : Option Tool) (a : ArcShape) (pieces : List Piece) (clear : Bool) →
    is_clear_in machine tool (Arc a) 1 ≡ clear → most ≤ 65535 →
    MayHavePieces machine most tool a (Some pieces) → length pieces ≤ 65535
arc_few machine most tool a pieces true e greatest may =
    subst (λ (ps : List Piece). length ps ≤ 65535) (same_some (pieces_of machine.step (Arc a) 1) pieces (sym (may.whole e)))
    (few machine.step (Arc a) 1 (omega arith) (omega arith))
arc_few machine most tool a pieces false e greatest may = let cut = may.cut e in omega (arith, cut.few, greatest)

found_few : (machine : MachineFile) (most : ℕ) (tool : Option Tool) (w : Way) (pieces : List Piece) → 1 ≤ most → most ≤ 65535 →
    MayFindPieces machine most tool w (Some pieces) → length pieces ≤ 65535
found_few machine most tool (Line b e) pieces least greatest may =
    let c = cleared_is machine most tool (Line b e) pieces least greatest (sym may) in
    subst (λ (ps : List Piece). length ps ≤ 65535) (sym c.made) (few machine.step (Line b e) c.count (at_least c.count c.fits) (at_most c.count c.fits))
found_few machine most tool (Arc a) pieces least greatest may = arc_few machine most tool a pieces (is_clear_in machine tool (Arc a) 1) refl greatest may

some_valid : (machine : MachineFile) (tool : Option Tool) (w : Way) (pieces : List Piece) → ArePiecesValid machine tool w pieces → 1 ≤ length pieces
some_valid machine tool w [] valid = absurd valid
some_valid machine tool w (p ∷ ps) valid = omega arith

-- an entry that a certificate may contain
pub found_entry : (machine : MachineFile) (most k : ℕ) (tool : Option Tool) (w : Way) (pieces : List Piece) → k ≤ 999999 → 1 ≤ most → most ≤ 65535 →
    MayFindPieces machine most tool w (Some pieces) → IsTrue (list_all good_piece pieces) → IsEntry (record { index = k; pieces = pieces })
found_entry machine most k tool w pieces index least greatest may good = record {
  index = index;
  some = some_valid machine tool w pieces (found_valid machine most tool w (Some pieces) pieces least greatest may refl);
  count = found_few machine most tool w pieces least greatest may;
  pieces = good;
}

-- a line has the pieces of their number
pub found_divided : (machine : MachineFile) (most : ℕ) (tool : Option Tool) (w : Way) (pieces : List Piece) → 1 ≤ most → most ≤ 65535 →
    MayFindPieces machine most tool w (Some pieces) → IsDividedIfLine machine.step w pieces
found_divided machine most tool (Line b e) pieces least greatest may =
    let c = cleared_is machine most tool (Line b e) pieces least greatest (sym may) in
    let number : length pieces ≡ c.count = ap (λ (ps : List Piece). length ps) c.made ∙ count_of machine.step b e c.count 0 c.count in
    c.made ∙ ap (pieces_of machine.step (Line b e)) (sym number)
found_divided machine most tool (Arc a) pieces least greatest may = tt

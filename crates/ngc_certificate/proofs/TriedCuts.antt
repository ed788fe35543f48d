-- The numbers of pieces that are tried, in order.
use Rattle.std.proofs.Common.{◌≡◌, ℕ, suc, ◌+◌, ◌<◌, ◌≤◌, ap, sym, ◌∙◌, List, [], ◌∷◌, ◌++◌, Some, true, false, arith}
use Rattle.std.specs.Prelude.{Option, option_map, Bool, nat_lt, drop, slice_index_or}
use Rattle.std.specs.List.{find, filter}
use Rattle.std.proofs.Math.Seq.{drop-cons}
use Rattle.std.proofs.lemmas.List.{drop_all}
use Rattle.std.proofs.lemmas.Bool.Decides.{nat_tests}
use Rattle.ngc_machine_files.specs.Machine.{MachineFile}
use Rattle.ngc_machine_files.specs.declared.tools.Tool.{Tool}
use Rattle.ngc_commands.specs.declared.movement.Way.{Way}
use Rattle.ngc_certificate_text.specs.declared.piece.Piece.{Piece}
use Rattle.ngc_certificate.specs.Made.{pieces_of, powers_of_two}
use Rattle.ngc_certificate.specs.Making.{is_clear_in, pieces_where}

-- the pieces of the first try that clears, if these powers of two remain
abbrev pub cleared_from : MachineFile → ℕ → Option Tool → Way → List ℕ → Option (List Piece)
cleared_from machine most tool w powers =
    option_map (pieces_of machine.step w) (find (is_clear_in machine tool w) (filter (λ c. nat_lt c most) powers ++ most ∷ []))

skip : (f : ℕ → List Piece) (test few : ℕ → Bool) (x : ℕ) (xs last : List ℕ) → few x ≡ false →
    option_map f (find test (filter few (x ∷ xs) ++ last)) ≡ option_map f (find test (filter few xs ++ last))
skip f test few x xs last h = simp h

fails : (f : ℕ → List Piece) (test few : ℕ → Bool) (x : ℕ) (xs last : List ℕ) → few x ≡ true → test x ≡ false →
    option_map f (find test (filter few (x ∷ xs) ++ last)) ≡ option_map f (find test (filter few xs ++ last))
fails f test few x xs last h i = simp (h, i)

found : (f : ℕ → List Piece) (test few : ℕ → Bool) (x : ℕ) (xs last : List ℕ) → few x ≡ true → test x ≡ true →
    option_map f (find test (filter few (x ∷ xs) ++ last)) ≡ Some (f x)
found f test few x xs last h i = simp (h, i)

at_last : (f : ℕ → List Piece) (test : ℕ → Bool) (x : ℕ) (clear : Bool) → clear ≡ test x →
    option_map f (find test (x ∷ [])) ≡ pieces_where clear (f x)
at_last f test x true h = simp (sym h)
at_last f test x false h = simp (sym h)

-- at index i of the powers of two, which is the next one
next : (i : ℕ) → i < 16 → drop i powers_of_two ≡ slice_index_or powers_of_two i 0 ∷ drop (i + 1) powers_of_two
next i h = let e : i + 1 ≡ suc i = omega arith in drop-cons powers_of_two i 0 h ∙ ap (λ n. slice_index_or powers_of_two i 0 ∷ drop n powers_of_two) (sym e)

too_many : (most x : ℕ) → most ≤ x → nat_lt x most ≡ false
too_many most x h = grind (arith, nat_tests)

few_enough : (most x : ℕ) → x < most → nat_lt x most ≡ true
few_enough most x h = grind (arith, nat_tests)

pub skipped : (machine : MachineFile) (most : ℕ) (tool : Option Tool) (w : Way) (i : ℕ) → i < 16 → most ≤ slice_index_or powers_of_two i 0 →
    cleared_from machine most tool w (drop i powers_of_two) ≡ cleared_from machine most tool w (drop (i + 1) powers_of_two)
skipped machine most tool w i h large =
    let x = slice_index_or powers_of_two i 0 in
    ap (cleared_from machine most tool w) (next i h)
    ∙ skip (pieces_of machine.step w) (is_clear_in machine tool w) (λ c. nat_lt c most) x (drop (i + 1) powers_of_two) (most ∷ []) (too_many most x large)

pub refused : (machine : MachineFile) (most : ℕ) (tool : Option Tool) (w : Way) (i : ℕ) → i < 16 → slice_index_or powers_of_two i 0 < most →
    false ≡ is_clear_in machine tool w (slice_index_or powers_of_two i 0) →
    cleared_from machine most tool w (drop i powers_of_two) ≡ cleared_from machine most tool w (drop (i + 1) powers_of_two)
refused machine most tool w i h few failed =
    let x = slice_index_or powers_of_two i 0 in
    ap (cleared_from machine most tool w) (next i h)
    ∙ fails (pieces_of machine.step w) (is_clear_in machine tool w) (λ c. nat_lt c most) x (drop (i + 1) powers_of_two) (most ∷ []) (few_enough most x few)
    (sym failed)

pub taken : (machine : MachineFile) (most : ℕ) (tool : Option Tool) (w : Way) (i : ℕ) (pieces : List Piece) → i < 16 → slice_index_or powers_of_two i 0 < most →
    true ≡ is_clear_in machine tool w (slice_index_or powers_of_two i 0) → pieces ≡ pieces_of machine.step w (slice_index_or powers_of_two i 0) →
    cleared_from machine most tool w (drop i powers_of_two) ≡ Some pieces
taken machine most tool w i pieces h few clear same =
    let x = slice_index_or powers_of_two i 0 in
    ap (cleared_from machine most tool w) (next i h)
    ∙ found (pieces_of machine.step w) (is_clear_in machine tool w) (λ c. nat_lt c most) x (drop (i + 1) powers_of_two) (most ∷ [])
    (few_enough most x few) (sym clear)
    ∙ ap (λ (ps : List Piece). Some ps) (sym same)

pub last_try : (machine : MachineFile) (most : ℕ) (tool : Option Tool) (w : Way) (i : ℕ) (pieces : List Piece) (clear : Bool) → 16 ≤ i →
    clear ≡ is_clear_in machine tool w most → pieces ≡ pieces_of machine.step w most →
    cleared_from machine most tool w (drop i powers_of_two) ≡ pieces_where clear pieces
last_try machine most tool w i pieces clear h test same =
    ap (cleared_from machine most tool w) (drop_all i powers_of_two h)
    ∙ at_last (pieces_of machine.step w) (is_clear_in machine tool w) most clear test
    ∙ ap (pieces_where clear) (sym same)

-- The last operator of a text, and the sum that it ends.
use Rattle.std.proofs.Common.{ℕ, zero, suc, ◌≡◌, ◌∙◌, sym, ◌+◌, ◌<◌, Bool, true, false, List, [], ◌∷◌, length, drop, take, arith, ap, refl}
use Rattle.std.proofs.lemmas.Bool.{lt-ltb, ne_eqb}
use Rattle.std.proofs.lemmas.List.{at_drop_more, at_drop_all, take_rest}
use Rattle.std.proofs.lemmas.Result.{err_from_is_err_and}
use Rattle.std.specs.Prelude.{◌==◌, ◌-◌, if◌then◌else◌, nat_lt, Option, Result, Ok, Err}
use Rattle.std.specs.Result.{IsErrAnd}
use Rattle.ngc_quantities.specs.declared.fault.Fault.{Fault}
use Rattle.ngc_quantities.specs.declared.unit.Unit.{Unit}
use Rattle.ngc_quantities.specs.declared.written.Whole.{Whole}
use Rattle.ngc_quantities.specs.Numbers.{and_then}
use Rattle.ngc_quantities.specs.Sums.{begins_operator, last_operator, sum_by, term_in, later_term, joined, is_minus_at}

-- ---- the last operator

none_in_nothing : last_operator [] ≡ 0
unfolding last_operator
none_in_nothing = refl

-- at the end of a text is none
pub none_at_end : (text : List ℕ) (i : ℕ) → i ≡ length text → last_operator (drop i text) ≡ 0
none_at_end text i h = at_drop_all last_operator text i (omega arith) ∙ none_in_nothing

later_one : (n m : ℕ) → 0 < n → (if nat_lt 0 n then suc n else m) ≡ suc n
later_one n m h = ap (λ (b : Bool). if b then suc n else m) (lt-ltb 0 n h)

none_later : (n : ℕ) (begins : Bool) → n ≡ 0 → begins ≡ false → (if nat_lt 0 n then suc n else (if begins then 1 else 0)) ≡ 0
none_later n begins h k = rw (h, k) refl

here : (n : ℕ) (begins : Bool) → n ≡ 0 → begins ≡ true → (if nat_lt 0 n then suc n else (if begins then 1 else 0)) ≡ 1
here n begins h k = rw (h, k) refl

more_of : (b : ℕ) (rest : List ℕ) → 0 < last_operator rest → last_operator (b ∷ rest) ≡ suc (last_operator rest)
unfolding last_operator
more_of b rest h = later_one (last_operator rest) _ h

none_of : (b : ℕ) (rest : List ℕ) → last_operator rest ≡ 0 → begins_operator (b ∷ rest) ≡ false → last_operator (b ∷ rest) ≡ 0
unfolding last_operator
none_of b rest h k = none_later (last_operator rest) (begins_operator (b ∷ rest)) h k

here_of : (b : ℕ) (rest : List ℕ) → last_operator rest ≡ 0 → begins_operator (b ∷ rest) ≡ true → last_operator (b ∷ rest) ≡ 1
unfolding last_operator
here_of b rest h k = here (last_operator rest) (begins_operator (b ∷ rest)) h k

-- one byte earlier
pub none_from : (text : List ℕ) (i j : ℕ) → i < length text → j ≡ i + 1 → last_operator (drop j text) ≡ 0 → begins_operator (drop i text) ≡ false → last_operator (drop i text) ≡ 0
none_from text i j h e none begins =
    let next : last_operator (drop (i + 1) text) ≡ 0 = ap (λ (k : ℕ). last_operator (drop k text)) (sym e) ∙ none in
    at_drop_more last_operator text i 0 h
    ∙ none_of _ _ next (sym (at_drop_more begins_operator text i 0 h) ∙ begins)

here_from : (text : List ℕ) (i j : ℕ) → i < length text → j ≡ i + 1 → last_operator (drop j text) ≡ 0 → begins_operator (drop i text) ≡ true → last_operator (drop i text) ≡ 1
here_from text i j h e none begins =
    let next : last_operator (drop (i + 1) text) ≡ 0 = ap (λ (k : ℕ). last_operator (drop k text)) (sym e) ∙ none in
    at_drop_more last_operator text i 0 h
    ∙ here_of _ _ next (sym (at_drop_more begins_operator text i 0 h) ∙ begins)

-- the last operator of the end of a text is that of the text
of_end : (n : ℕ) (text : List ℕ) → 0 < last_operator (drop n text) → last_operator text ≡ n + last_operator (drop n text)
of_end zero text h = omega arith
of_end (suc n) [] h = let g : 0 < last_operator [] = h in absurd (omega (arith, none_in_nothing))
of_end (suc n) (b ∷ rest) h =
    let g : 0 < last_operator (drop n rest) = h in
    let e : last_operator rest ≡ n + last_operator (drop n rest) = of_end n rest g in
    let some : 0 < last_operator rest = omega arith in
    let f : last_operator (b ∷ rest) ≡ suc (last_operator rest) = more_of b rest some in
    let goal : last_operator (b ∷ rest) ≡ suc n + last_operator (drop n rest) = omega arith in
    goal

pub found_at : (text : List ℕ) (i j : ℕ) → i < length text → j ≡ i + 1 → last_operator (drop j text) ≡ 0 → begins_operator (drop i text) ≡ true → last_operator text ≡ i + 1
found_at text i j h same none begins =
    let one : last_operator (drop i text) ≡ 1 = here_from text i j h same none begins in
    let e : last_operator text ≡ i + last_operator (drop i text) = of_end i text (omega arith) in
    omega arith

-- ---- the sum

chosen_first : {T : Type 0} (i : ℕ) (a b : T) → i ≡ 0 → (if i == 0 then a else b) ≡ a
chosen_first i a b h = rw h refl

chosen_second : {T : Type 0} (i : ℕ) (a b : T) → 0 < i → (if i == 0 then a else b) ≡ b
chosen_second i a b h = ap (λ (t : Bool). if t then a else b) (ne_eqb i 0 (λ e. omega arith))

-- one term
pub one_term : (n : ℕ) (otherwise : Option Unit) (at : ℕ) (text : List ℕ) → last_operator text ≡ 0 → sum_by n otherwise at text ≡ term_in otherwise at text
unfolding sum_by
one_term zero otherwise at text h = refl
one_term (suc n) otherwise at text h = chosen_first (last_operator text) _ _ h

pub no_more : (n : ℕ) (otherwise : Option Unit) (at : ℕ) (text : List ℕ) → n ≡ 0 → sum_by n otherwise at text ≡ term_in otherwise at text
unfolding sum_by
no_more zero otherwise at text h = refl
no_more (suc n) otherwise at text h = absurd (omega arith)

abbrev pub read : Whole → Result Whole Fault
read sum = Ok sum

abbrev pub refused : Fault → Result Whole Fault
refused fault = Err fault

-- what the last operator joins
abbrev pub joined_by : (n : ℕ) (index : ℕ) (otherwise : Option Unit) (at : ℕ) (text : List ℕ) → Result Whole Fault
joined_by n index otherwise at text =
    and_then (later_term otherwise (at + (index + 1)) (drop (index + 1) text)) (λ last.
    and_then (sum_by n last.unit at (take index text)) (λ first.
    Ok (joined (is_minus_at index text) first last)))

pub two_terms : (m n index : ℕ) (otherwise : Option Unit) (at : ℕ) (text : List ℕ) → m ≡ suc n → index ≡ last_operator text → 0 < index → sum_by m otherwise at text ≡ joined_by n index otherwise at text
unfolding sum_by
two_terms zero n index otherwise at text h k some = absurd (omega arith)
two_terms (suc m) n index otherwise at text h k some =
    let same : m ≡ n = omega arith in
    rw (k, ← same) (chosen_second (last_operator text) _ _ (rw (← k) some))

-- what the exit of a `?` returns
pub exits : (result : Result Whole Fault) (fault : Fault) → IsErrAnd result (λ y. y ≡ fault) → result ≡ Err fault
exits result fault h = let p = err_from_is_err_and result h in p.1 ∙ ap (λ (y : Fault). refused y) p.2

-- the last term, of the text from j on
pub read_from : (otherwise : Option Unit) (at : ℕ) (text : List ℕ) (j : ℕ) (r : Result Whole Fault) → r ≡ later_term otherwise at (take (length text - j) (drop j text)) → later_term otherwise at (drop j text) ≡ r
read_from otherwise at text j r h = sym (h ∙ ap (λ (s : List ℕ). later_term otherwise at s) (take_rest text j))

pub last_refused : (n index : ℕ) (otherwise : Option Unit) (at : ℕ) (text : List ℕ) (fault : Fault) → later_term otherwise (at + (index + 1)) (drop (index + 1) text) ≡ Err fault → joined_by n index otherwise at text ≡ Err fault
last_refused n index otherwise at text fault h = rw h refl

pub first_refused : (n index : ℕ) (otherwise : Option Unit) (at : ℕ) (text : List ℕ) (last : Whole) (fault : Fault) → later_term otherwise (at + (index + 1)) (drop (index + 1) text) ≡ Ok last → sum_by n last.unit at (take index text) ≡ Err fault → joined_by n index otherwise at text ≡ Err fault
first_refused n index otherwise at text last fault h k = rw (h, k) refl

both_read : (n index : ℕ) (otherwise : Option Unit) (at : ℕ) (text : List ℕ) (last first : Whole) → later_term otherwise (at + (index + 1)) (drop (index + 1) text) ≡ Ok last → sum_by n last.unit at (take index text) ≡ Ok first → joined_by n index otherwise at text ≡ read (joined (is_minus_at index text) first last)
both_read n index otherwise at text last first h k = rw (h, k) refl

pub joined_read : (sum : Whole) (is_minus : Bool) (n index : ℕ) (otherwise : Option Unit) (at : ℕ) (text : List ℕ) (last first : Whole) → sum ≡ joined is_minus first last → is_minus ≡ is_minus_at index text → later_term otherwise (at + (index + 1)) (drop (index + 1) text) ≡ Ok last → sum_by n last.unit at (take index text) ≡ Ok first → read sum ≡ joined_by n index otherwise at text
joined_read sum is_minus n index otherwise at text last first s m h k =
    ap read (s ∙ ap (λ (b : Bool). joined b first last) m) ∙ sym (both_read n index otherwise at text last first h k)

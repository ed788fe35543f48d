-- Numbers of few digits, and words with them.
use Rattle.std.proofs.Common.{◌≡◌, ◌≢◌, ℕ, suc, ◌+◌, ◌-◌, ◌*◌, ◌^◌, ◌<◌, ◌≤◌, Bool, true, false, List, [], ◌∷◌, ◌++◌, length, drop, slice_index, Result, Ok, Err, Some, refl, sym, ◌∙◌, ap, arith}
use Rattle.std.specs.Prelude.{◌==◌, ◌&&◌, nat_eq, codes}
use Rattle.std.specs.Char.{is_ascii_digit}
use Rattle.std.specs.List.{fold, starts_with}
use Rattle.std.proofs.lemmas.Bool.{false≢true, le-leb}
use Rattle.std.proofs.lemmas.Bool.Decides.{nat_tests}
use Rattle.std.proofs.lemmas.List.{length-append}
use Rattle.std.proofs.lemmas.List.Sums.{fold-append}
use Rattle.ngc_line_reader.specs.Numbers.{digits_value}
use Rattle.ngc_line_reader.specs.Scan.{◌>>=◌, begins, digits_at, after_digits}
use Rattle.ngc_dialect_reader.specs.declared.switches.Switches.{Switches}
use Rattle.ngc_dialect_reader.specs.declared.part.Part.{Part}
use Rattle.ngc_dialect_reader.specs.declared.part.Literal.{Literal}
use Rattle.ngc_dialect_reader.specs.declared.part.PartKind.TheVariants as kinds
use Rattle.ngc_dialect_reader.specs.Number.{LIMIT, has_sign, unsigned, whole_at, after_whole, decimals_in, after_decimals, size_of, limited, literal, number_at}
use Rattle.ngc_dialect_reader.specs.Steps.{Reader, added}
use Rattle.ngc_dialect_reader.specs.Value.{value_at, value_with, begins_digits, literal_at}
use Rattle.ngc_dialect_reader.specs.Item.{items, items_at, item_at, word_at, is_word_letter, begins_number, begins_value}
use Rattle.ngc_dialect_reader.specs.Line.{delete_at, line_number_at, statement_at, text_at}
use Rattle.ngc_dialect_reader.proofs.Rounded.{nearest-short}
use Rattle.ngc_dialect_reader.proofs.ItemSteps.{items_step}

abbrev pub then_digit : ℕ → ℕ → ℕ
then_digit n d = 10 * n + (d - 48)

-- without rounding, a number is its digits in their last place
pub short_number : (s : List ℕ) (u n : ℕ) → ((length (whole_at s) == 0) && (length (decimals_in (after_whole s)) == 0)) ≡ false
    → length (decimals_in (after_whole s)) ≤ 12 → begins 46 (after_decimals (after_whole s)) ≡ false
    → u ≡ fold then_digit (digits_value (whole_at s)) (decimals_in (after_whole s)) → n ≡ u * 10 ^ (12 - length (decimals_in (after_whole s))) → n ≤ LIMIT
    → number_at s ≡ Ok (literal (begins 45 s) n (begins 46 (after_whole s)), after_decimals (after_whole s))
unfolding number_at
short_number s u n some few last e size fits =
    let ws = whole_at s in
    let ds = decimals_in (after_whole s) in
    let whole : u ≡ digits_value (ws ++ ds) = e ∙ sym (fold-append then_digit 0 ws ds) in
    let value : size_of ws ds ≡ n = nearest-short (digits_value (ws ++ ds)) (length ds) few ∙ sym (size ∙ ap (λ (k : ℕ). k * 10 ^ (12 - length ds)) whole) in
    let limit : limited (size_of ws ds) ≡ Some n = ap limited value ∙ rw (le-leb n LIMIT fits) refl in
    rw (some, last, limit) refl

digit_begun : (u : List ℕ) → ((length (digits_at u) == 0) && (length (decimals_in (after_digits u)) == 0)) ≡ false → begins_digits u ≡ true
digit_begun [] h = absurd (false≢true (sym h))
digit_begun (c ∷ u) h = by_digit (is_ascii_digit c) (c == 46) refl refl where
  by_digit : (a b : Bool) → is_ascii_digit c ≡ a → (c == 46) ≡ b → begins_digits (c ∷ u) ≡ true
  by_digit true b p q = rw p refl
  by_digit false true p q = rw (p, q) refl
  by_digit false false p q = let none : ((length (digits_at (c ∷ u)) == 0) && (length (decimals_in (after_digits (c ∷ u))) == 0)) ≡ true = rw (p, q) refl in absurd (false≢true (sym h ∙ none))

-- what has digits begins a number
pub number_begun : (t : List ℕ) → ((length (whole_at t) == 0) && (length (decimals_in (after_whole t)) == 0)) ≡ false → begins_number t ≡ true
number_begun t h = by_sign (has_sign t) (begins_digits t) refl refl (digit_begun (unsigned t) h) where
  by_sign : (a b : Bool) → has_sign t ≡ a → begins_digits t ≡ b → begins_digits (unsigned t) ≡ true → begins_number t ≡ true
  by_sign a true p q d = rw q refl
  by_sign true false p q d = let u : unsigned t ≡ drop 1 t = rw p refl in let e : begins_digits (drop 1 t) ≡ true = sym (ap begins_digits u) ∙ d in rw (p, q, e) refl
  by_sign false false p q d = let u : unsigned t ≡ t = rw p refl in let e : begins_digits t ≡ true = sym (ap begins_digits u) ∙ d in absurd (false≢true (sym q ∙ e))

-- a number is a value, whatever the dialect
value_number : (d : Switches) (value : Reader) (found : List Part) (t : List ℕ) → begins_number t ≡ true → value_with d value found t ≡ literal_at found t
unfolding value_with
value_number d value found t h = by_digits (begins_digits t) (has_sign t) (begins_digits (drop 1 t)) d.expressions refl refl refl refl where
  by_digits : (a b c e : Bool) → begins_digits t ≡ a → has_sign t ≡ b → begins_digits (drop 1 t) ≡ c → d.expressions ≡ e → value_with d value found t ≡ literal_at found t
  by_digits true b c e p q r s = rw p refl
  by_digits false false c e p q r s = let n : begins_number t ≡ false = rw (p, q) refl in absurd (false≢true (sym n ∙ h))
  by_digits false true false e p q r s = let n : begins_number t ≡ false = rw (p, q, r) refl in absurd (false≢true (sym n ∙ h))
  by_digits false true true true p q r s = rw (p, q, r, s) refl
  by_digits false true true false p q r s = rw (p, q, r, s) refl

begun : (t : List ℕ) → begins_number t ≡ true → begins_value t ≡ true
begun t h = by_digits (begins_digits t) (has_sign t) refl refl where
  by_digits : (a b : Bool) → begins_digits t ≡ a → has_sign t ≡ b → begins_value t ≡ true
  by_digits true b p q = rw p refl
  by_digits false true p q = rw (p, q) refl
  by_digits false false p q = let n : begins_number t ≡ false = rw (p, q) refl in absurd (false≢true (sym n ∙ h))

pub number_word : (d : Switches) (letter : ℕ) (found : List Part) (s : List ℕ) → begins_number (drop 1 s) ≡ true →
    word_at d letter found s ≡ (literal_at found (drop 1 s) >>= λ x. added (kinds.Word letter) s x.0 x.1)
unfolding word_at value_at
number_word d letter found s h =
    let b : begins_value (drop 1 s) ≡ true = begun (drop 1 s) h in
    let v : value_with d (value_at d 31) found (drop 1 s) ≡ literal_at found (drop 1 s) = value_number d (value_at d 31) found (drop 1 s) h in
    rw (b, v) refl

-- a word whose value is a number, as an item
pub short_word : (d : Switches) (found : List Part) (s : List ℕ) (x : Literal) (r : List ℕ) → 0 < length s → 65 ≤ slice_index s 0 → slice_index s 0 ≤ 90
    → slice_index s 0 ≢ 78 → slice_index s 0 ≢ 79 → begins_number (drop 1 s) ≡ true → number_at (drop 1 s) ≡ Ok (x, r) → length found ≤ 126 → item_at d found s
    ≡ Ok ((found ++ (record { kind = kinds.Number x; left = length (drop 1 s) } ∷ [])) ++ (record { kind = kinds.Word (slice_index s 0); left = length s } ∷ []), r)
unfolding item_at literal_at
short_word d found [] x r some low high n o begun e few = absurd (omega arith)
short_word d found (b ∷ t) x r some low high n o begun e few =
    let comment : (b == 40) ≡ false = grind (arith, nat_tests) in
    let setting : (b == 35) ≡ false = grind (arith, nat_tests) in
    let letter : is_word_letter d b ≡ true = grind (arith, nat_tests) in
    let room : (length found == 128) ≡ false = grind (arith, nat_tests) in
    let more : (length (found ++ (record { kind = kinds.Number x; left = length t } ∷ [])) == 128) ≡ false = let l = length-append found (record { kind = kinds.Number x; left = length t } ∷ []) in
    grind (arith, nat_tests) in
    let word = number_word d b found (b ∷ t) begun in
    rw (comment, setting, letter, word, e, room, more) refl

abbrev is_read : {X E : Type 0} → Result X E → Bool
is_read (Ok x) = true
is_read (Err e) = false

-- one item that is read
pub item_step : (d : Switches) (room : ℕ) (found : List Part) (s : List ℕ) (parts : List Part) (r : List ℕ) → 0 < room
    → item_at d found s ≡ Ok (parts, r) → items_at d room found s ≡ items_at d (room - 1) parts r
unfolding item_at
item_step d room found [] parts r h e = absurd (false≢true (ap is_read e))
item_step d room found (b ∷ t) parts r h e = let some : (length (b ∷ t) == 0) ≡ false = grind (arith, nat_tests) in items_step d room found (b ∷ t) h ∙ rw (some, e) refl

-- a text that begins with such a letter
pub word_line : (d : Switches) (s : List ℕ) → 0 < length s → 65 ≤ slice_index s 0 → slice_index s 0 ≤ 90 → slice_index s 0 ≢ 78 → slice_index s 0 ≢ 79
    → d.macros ≡ false → text_at d s ≡ items d [] s
unfolding text_at delete_at line_number_at statement_at
word_line d [] some low high n o m = absurd (omega arith)
word_line d (b ∷ t) some low high n o m =
    let slash : (b == 47) ≡ false = grind (arith, nat_tests) in
    let number : (b == 78) ≡ false = grind (arith, nat_tests) in
    let percent : (b == 37) ≡ false = grind (arith, nat_tests) in
    let home : nat_eq 36 b ≡ false = grind (arith, nat_tests) in
    let label : (b == 79) ≡ false = grind (arith, nat_tests) in
    let command : (d.commands && starts_with nat_eq (b ∷ t) (codes "$H")) ≡ false = neither d.commands _ (rw home refl) in
    rw (slash, number, percent, command, label, m) refl where
      neither : (x y : Bool) → y ≡ false → (x && y) ≡ false
      neither true y h = h
      neither false y h = refl

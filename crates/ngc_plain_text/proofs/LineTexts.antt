-- The text of words is a line that our own language reads as these words.
use Rattle.std.proofs.Common.{◌≡◌, ◌≢◌, ℕ, ◌≤◌, ℤ, pos, negsuc, ap, subst, Bool, true, false, Option, Some, None, List, [], ◌∷◌, ◌++◌}
use Rattle.std.proofs.Common.{length, map, Result, Ok, Err, refl, sym, ◌∙◌, arith}
use Rattle.std.proofs.lemmas.List.{append-nil}
use Rattle.std.proofs.lemmas.Bool.{and_parts, leb-true, le-leb}
use Rattle.std.proofs.lemmas.Bool.Decides.{nat_tests}
use Rattle.std.specs.Prelude.{◌==◌, nat_le, is_ok}
use Rattle.std.specs.Char.{is_ascii_digit}
use Rattle.std.specs.List.{AllByRecursion}
use Rattle.std.specs.Option.{option_to_list, option_map}
use Rattle.ngc_fixed_length.specs.Limits.{IsValue}
use Rattle.ngc_line_reader.specs.declared.letter.Letter.{Letter}
use Rattle.ngc_line_reader.specs.declared.letter.Letter.TheVariants as letters
use Rattle.ngc_line_reader.specs.declared.line.Line.{Line}
use Rattle.ngc_line_reader.specs.declared.fault.LineFault.{LineFault}
use Rattle.ngc_line_reader.specs.declared.text.Place.TheVariants.{Outside}
use Rattle.ngc_line_reader.specs.Letter.{letter_byte}
use Rattle.ngc_line_reader.specs.Text.{text, text_from, kept, place_after, columns, place_in}
use Rattle.ngc_line_reader.specs.Grammar.{Sign, bare, plus, minus, number, Item, word, Reading, Reads, IsItem, IsDigits, digits_of}
use Rattle.ngc_line_reader.specs.Grammar.{sign_text, optional_part, item_text, items_text}
use Rattle.ngc_line_reader.specs.Numbers.{numeral_value}
use Rattle.ngc_line_reader.specs.Held.{AllWithinLimit, word_count, WithinLimits}
use Rattle.ngc_line_reader.specs.ScanLine.{ParsedLine, text_at}
use Rattle.ngc_line_reader.specs.ReadLine.{line_read}
use Rattle.ngc_line_reader.specs.Words.{number_words}
use Rattle.ngc_line_reader.proofs.ReadLines.{finds_reading}
use Rattle.ngc_plain_text.specs.Text.{word_text, line_text}
use Rattle.ngc_plain_text.specs.Limits.{AreValues, is_short}
use Rattle.ngc_plain_text.specs.Laws.{WordsReadBack, LinesReadBack}
use Rattle.ngc_plain_text.proofs.Numerals.{numeral_of, numeral_is_text, numeral_is, numeral_value_is, value_short}

-- ---- the bytes of words

-- a sign, a point, a digit, or a letter
abbrev pub IsWordByte : ℕ → Type 0
IsWordByte b = (45 ≤ b) × (b ≤ 90) × (b ≢ 59)

abbrev pub AreWordBytes : List ℕ → Type 0
AreWordBytes bs = AllByRecursion IsWordByte bs

kept_as_is : (b : ℕ) (last : Bool) → 45 ≤ b → b ≤ 90 → kept Outside b last ≡ Some b
kept_as_is b last low high = grind (arith, nat_tests)

stays_outside : (b : ℕ) → 45 ≤ b → b ≢ 59 → place_after Outside b ≡ Outside
stays_outside b low other = grind (arith, nat_tests)

pub text_of_word : (xs ys : List ℕ) → AreWordBytes xs → text_from Outside (xs ++ ys) ≡ xs ++ text_from Outside ys
text_of_word [] ys h = refl
text_of_word (b ∷ xs) ys h =
    ap (λ (o : Option ℕ). option_to_list o ++ text_from (place_after Outside b) (xs ++ ys)) (kept_as_is b (length (xs ++ ys) == 0) h.0.0 h.0.1)
    ∙ ap (λ p. b ∷ text_from p (xs ++ ys)) (stays_outside b h.0.0 h.0.2)
    ∙ ap (λ (t : List ℕ). b ∷ t) (text_of_word xs ys h.1)

bytes_joined : (xs ys : List ℕ) → AreWordBytes xs → AreWordBytes ys → AreWordBytes (xs ++ ys)
bytes_joined [] ys h k = k
bytes_joined (b ∷ xs) ys h k = (h.0, bytes_joined xs ys h.1 k)

letter_is_byte : (l : Letter) → IsWordByte (letter_byte l)
letter_is_byte letters.A = (omega arith, omega arith, λ e. omega (arith, e))
letter_is_byte letters.B = (omega arith, omega arith, λ e. omega (arith, e))
letter_is_byte letters.C = (omega arith, omega arith, λ e. omega (arith, e))
letter_is_byte letters.D = (omega arith, omega arith, λ e. omega (arith, e))
letter_is_byte letters.F = (omega arith, omega arith, λ e. omega (arith, e))
letter_is_byte letters.G = (omega arith, omega arith, λ e. omega (arith, e))
letter_is_byte letters.H = (omega arith, omega arith, λ e. omega (arith, e))
letter_is_byte letters.I = (omega arith, omega arith, λ e. omega (arith, e))
letter_is_byte letters.J = (omega arith, omega arith, λ e. omega (arith, e))
letter_is_byte letters.K = (omega arith, omega arith, λ e. omega (arith, e))
letter_is_byte letters.L = (omega arith, omega arith, λ e. omega (arith, e))
letter_is_byte letters.M = (omega arith, omega arith, λ e. omega (arith, e))
letter_is_byte letters.P = (omega arith, omega arith, λ e. omega (arith, e))
letter_is_byte letters.Q = (omega arith, omega arith, λ e. omega (arith, e))
letter_is_byte letters.R = (omega arith, omega arith, λ e. omega (arith, e))
letter_is_byte letters.S = (omega arith, omega arith, λ e. omega (arith, e))
letter_is_byte letters.T = (omega arith, omega arith, λ e. omega (arith, e))
letter_is_byte letters.X = (omega arith, omega arith, λ e. omega (arith, e))
letter_is_byte letters.Y = (omega arith, omega arith, λ e. omega (arith, e))
letter_is_byte letters.Z = (omega arith, omega arith, λ e. omega (arith, e))

digit_is_byte : (d : ℕ) → is_ascii_digit d ≡ true → IsWordByte d
digit_is_byte d h = (grind (arith, nat_tests), grind (arith, nat_tests), λ e. grind (arith, nat_tests, e))

digits_are_bytes : (ds : List ℕ) → IsDigits ds → AreWordBytes ds
digits_are_bytes [] h = tt
digits_are_bytes (d ∷ ds) h = (digit_is_byte d h.0, digits_are_bytes ds h.1)

sign_is_bytes : (s : Sign) → s ≢ plus → AreWordBytes (sign_text s)
sign_is_bytes bare h = tt
sign_is_bytes plus h = absurd (h refl)
sign_is_bytes minus h = ((omega arith, omega arith, λ e. omega (arith, e)), tt)

decimals_are_bytes : (ds : Option (List ℕ)) → IsDigits (digits_of ds) → AreWordBytes (optional_part 46 ds)
decimals_are_bytes None h = tt
decimals_are_bytes (Some ds) h = ((omega arith, omega arith, λ e. omega (arith, e)), digits_are_bytes ds h)

not_plus : (z : ℤ) → (numeral_of z).sign ≢ plus
not_plus (pos n) e = absurd (cc e)
not_plus (negsuc n) e = absurd (cc e)

-- ---- items

abbrev pub item_of : Letter × ℤ → Item
item_of w = word w.0 (number (numeral_of w.1))

abbrev pub items_of : List (Letter × ℤ) → List Item
items_of words = map item_of words

abbrev pub reading_of : List (Letter × ℤ) → Reading
reading_of words = record { deleted = false; number = None; items = items_of words; remark = None }

item_is_text : (w : Letter × ℤ) → item_text (item_of w) ≡ word_text w
item_is_text w = ap (λ (t : List ℕ). letter_byte w.0 ∷ t) (numeral_is_text w.1)

pub word_is_bytes : (w : Letter × ℤ) → IsValue w.1 → AreWordBytes (word_text w)
word_is_bytes w h =
    let n = numeral_of w.1 in
    let is = numeral_is w.1 h in
    subst AreWordBytes (item_is_text w) (
      letter_is_byte w.0,
      bytes_joined (sign_text n.sign) (n.whole ++ optional_part 46 n.decimals) (sign_is_bytes n.sign (not_plus w.1))
          (bytes_joined n.whole (optional_part 46 n.decimals) (digits_are_bytes n.whole is.0) (decimals_are_bytes n.decimals is.1)),
    )

-- the text without the blanks
pub text_of_line : (words : List (Letter × ℤ)) → AreValues words → text (line_text words) ≡ items_text (items_of words)
text_of_line [] h = refl
text_of_line (w ∷ []) h =
    let alone : word_text w ≡ word_text w ++ [] = sym (append-nil (word_text w)) in
    ap text alone ∙ text_of_word (word_text w) [] (word_is_bytes w h.0) ∙ ap (λ (t : List ℕ). t ++ []) (sym (item_is_text w))
text_of_line (w ∷ v ∷ words) h =
    text_of_word (word_text w) (32 ∷ line_text (v ∷ words)) (word_is_bytes w h.0)
    ∙ ap (λ (t : List ℕ). word_text w ++ t) (text_of_line (v ∷ words) h.1)
    ∙ ap (λ (t : List ℕ). t ++ items_text (items_of (v ∷ words))) (sym (item_is_text w))

are_items : (words : List (Letter × ℤ)) → AreValues words → AllByRecursion IsItem (items_of words)
are_items [] h = tt
are_items (w ∷ words) h = (numeral_is w.1 h.0, are_items words h.1)

pub line_reads : (words : List (Letter × ℤ)) → AreValues words → Reads (line_text words) (reading_of words)
line_reads words h = ((tt, are_items words h), append-nil (items_text (items_of words)) ∙ sym (text_of_line words h))

pub within_limit : (words : List (Letter × ℤ)) → AreValues words → AllWithinLimit (items_of words)
within_limit [] h = tt
within_limit (w ∷ words) h = (subst IsValue (sym (numeral_value_is w.1 h.0)) h.0, within_limit words h.1)

counted : (words : List (Letter × ℤ)) → word_count (items_of words) ≡ length words
counted [] = refl
counted (w ∷ words) = let e = counted words in omega (arith, e)

pub line_says : (words : List (Letter × ℤ)) → AreValues words → number_words (items_of words) ≡ Some words
line_says [] h = refl
line_says (w ∷ words) h =
    ap (option_map (λ (ws : List (Letter × ℤ)). (w.0, numeral_value (numeral_of w.1)) ∷ ws)) (line_says words h.1)
    ∙ ap (λ (z : ℤ). Some ((w.0, z) ∷ words)) (numeral_value_is w.1 h.0)

-- ---- the reader

no_line : Line
no_line = record { deleted = false; number = None; words = record { items = [] }; settings = record { items = [] }; tokens = record { items = [] } }

-- a reading within the limits is found
text_accepted : (bytes : List ℕ) (r : Reading) → Reads bytes r → WithinLimits r → is_ok (text_at (place_in (columns bytes)) (text bytes)) ≡ true
text_accepted bytes r reads limits = by_result (text_at (place_in (columns bytes)) (text bytes)) refl where
  by_result : (x : Result ParsedLine LineFault) → text_at (place_in (columns bytes)) (text bytes) ≡ x → is_ok x ≡ true
  by_result (Ok said) e = refl
  by_result (Err fault) e = absurd (cc (finds_reading bytes (text bytes) (columns bytes) no_line (Err fault) refl e r reads limits))

pub short_enough : (words : List (Letter × ℤ)) → is_short words ≡ true → (length words ≤ 64) × (length (line_text words) ≤ 256)
short_enough words h =
    let parts = and_parts (nat_le (length words) 64) (nat_le (length (line_text words)) 256) h in
    (leb-true _ _ parts.0, leb-true _ _ parts.1)

accepted_by : (bytes : List ℕ) → length bytes ≤ 256 → is_ok (text_at (place_in (columns bytes)) (text bytes)) ≡ true → is_ok (line_read bytes) ≡ true
accepted_by bytes short ok =
    let not_long : nat_le 257 (length bytes) ≡ false = grind (arith, nat_tests) in
    rw not_long ok

pub line_reads_back : LinesReadBack
line_reads_back words values short =
    let few = short_enough words short in
    let limits : WithinLimits (reading_of words) = (within_limit words values, omega (arith, counted words, few.0)) in
    record {
      reading = reading_of words;
      reads = line_reads words values;
      limits = limits;
      accepted = accepted_by (line_text words) few.1 (text_accepted (line_text words) (reading_of words) (line_reads words values) limits);
      kept = refl;
      says = line_says words values;
    }

-- ---- one word

pub word_short : (w : Letter × ℤ) → IsValue w.1 → length (word_text w) ≤ 19
word_short w h = omega (arith, value_short w.1 h)

pub word_reads_back : WordsReadBack
word_reads_back letter value h =
    let w : Letter × ℤ = (letter, value) in
    let short = word_short w h in
    let some : nat_le (length (word_text w)) 256 ≡ true = le-leb _ _ (omega (arith, short)) in
    line_reads_back (w ∷ []) (h, tt) (rw some refl)

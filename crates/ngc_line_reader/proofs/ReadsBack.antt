-- A text that is written for a value is read as that value.
use Rattle.std.proofs.Common.{◌≡◌, ◌≢◌, ℕ, ◌+◌, ◌-◌, ◌<◌, ℤ, ap, Bool, true, false, Option, Some, None, List, [], ◌∷◌, ◌++◌, length, Result, Ok, refl, ◌∙◌}
use Rattle.std.proofs.Common.{append_assoc, length-append, arith}
use Rattle.std.specs.Prelude.{◌==◌, ◌&&◌, unsigned_abs, nat_le}
use Rattle.std.specs.Char.{is_ascii_digit}
use Rattle.std.specs.List.{prefix_len}
use Rattle.std.proofs.lemmas.List.{take_at, drop_at}
use Rattle.std.proofs.lemmas.Bool.{le-leb}
use Rattle.std.proofs.lemmas.Bool.Decides.{nat_tests}
use Rattle.ngc_fixed_length.specs.Limits.{limited, IsValue, VALUE_LIMIT}
use Rattle.ngc_line_reader.specs.declared.token.Operator.{Operator}
use Rattle.ngc_line_reader.specs.declared.token.Operator.TheVariants.{Add, Subtract, Multiply, Divide}
use Rattle.ngc_line_reader.specs.declared.token.Token.{Token}
use Rattle.ngc_line_reader.specs.declared.token.Symbol.TheVariants as mark
use Rattle.ngc_line_reader.specs.declared.fault.ItemRefusal.{ItemRefusal}
use Rattle.ngc_line_reader.specs.Grammar.{Sign, bare, plus, minus, Numeral, Real, number, parameter, bracket, Rest, close, next, sign_text, optional_part}
use Rattle.ngc_line_reader.specs.Grammar.{numeral_text, operator_byte, real_text, rest_text, IsDigits, digits_of, IsNumeral, IsReal, IsRest, Stops}
use Rattle.ngc_line_reader.specs.Numbers.{written_value, numeral_value, is_negative}
use Rattle.ngc_line_reader.specs.Tokens.{token_at, tokens_of, rest_tokens, IsWithinLimit, IsRestWithinLimit}
use Rattle.ngc_line_reader.specs.Scan.{begins, after_sign, digits_at, after_digits, decimals_at, after_decimals, whole_at, fraction_at, after_number}
use Rattle.ngc_line_reader.specs.Scan.{value_fits, number_at, operator_at, real_at, rest_at}
use Rattle.ngc_line_reader.proofs.UniqueReading.{NoDigit, NoDigit-Stops, NoDigit-optional, body, body_not, numeral_not, heads, rest_stops}
use Rattle.ngc_line_reader.proofs.Scanning.{real_step, rest_step}

-- digits are read up to the first other byte
prefix_digits : (ds r : List ℕ) → IsDigits ds → NoDigit r → prefix_len is_ascii_digit (ds ++ r) ≡ length ds
prefix_digits [] [] h n = refl
prefix_digits [] (b ∷ r) h n = rw n refl
prefix_digits (d ∷ ds) r h n = let digit : is_ascii_digit d ≡ true = h.0 in let rest = prefix_digits ds r h.1 n in rw digit (omega (arith, rest))

pub digits_again : (ds r : List ℕ) → IsDigits ds → NoDigit r → (digits_at (ds ++ r) ≡ ds) × (after_digits (ds ++ r) ≡ r)
digits_again ds r h n = let e = prefix_digits ds r h n in (rw e (take_at ds r (length ds) refl), rw e (drop_at ds r (length ds) refl))

pub begins_not : (c : ℕ) (s : List ℕ) → ((t : List ℕ) → s ≡ c ∷ t → ⊥) → begins c s ≡ false
begins_not c [] h = refl
begins_not c (b ∷ s) h = grind (arith, nat_tests, h s)

pub begins_stops : (r : List ℕ) → Stops r → begins 46 r ≡ false
begins_stops r h = begins_not 46 r (λ t e. stops r t h e) where
  stops : (r t : List ℕ) → Stops r → r ≡ 46 ∷ t → ⊥
  stops [] t h e = cc
  stops (b ∷ r) t h e = h.1 (heads b 46 _ _ e)

-- the sign is removed
sign_again : (sign : Sign) (n : Numeral) (r : List ℕ) → IsNumeral n →
    (after_sign ((sign_text sign ++ body n) ++ r) ≡ body n ++ r) × (begins 45 ((sign_text sign ++ body n) ++ r) ≡ is_negative sign)
sign_again bare n r h =
    let no_plus : begins 43 (body n ++ r) ≡ false = begins_not 43 (body n ++ r) (λ t e. body_not 43 n r t refl (λ q. omega arith) h e) in
    let no_minus : begins 45 (body n ++ r) ≡ false = begins_not 45 (body n ++ r) (λ t e. body_not 45 n r t refl (λ q. omega arith) h e) in
    (rw (no_plus, no_minus) refl, no_minus)
sign_again plus n r h = (refl, refl)
sign_again minus n r h = (refl, refl)

decimals_again : (ds : Option (List ℕ)) (r : List ℕ) → IsDigits (digits_of ds) → Stops r →
    (digits_of (decimals_at (optional_part 46 ds ++ r)) ≡ digits_of ds) × (after_decimals (optional_part 46 ds ++ r) ≡ r)
decimals_again None r h s = let e = begins_stops r s in (rw e refl, rw e refl)
decimals_again (Some ds) r h s = digits_again ds r h (NoDigit-Stops r s)

is_limited : (z : ℤ) → IsValue z → value_fits (limited z) ≡ Ok z
is_limited z h = let e : nat_le (unsigned_abs z) VALUE_LIMIT ≡ true = le-leb _ _ h in rw e refl

some_digits : (m n : ℕ) → 0 < m + n → (m == 0) && (n == 0) ≡ false
some_digits m n h = grind (arith, nat_tests)

-- a number is read from its parts
by_parts : (s ds es r : List ℕ) (negative : Bool) → whole_at s ≡ ds → fraction_at s ≡ es → after_number s ≡ r → begins 45 s ≡ negative
    → (length ds == 0) && (length es == 0) ≡ false → begins 46 r ≡ false →
    value_fits (limited (written_value negative ds es)) ≡ Ok (written_value negative ds es)
    → number_at s ≡ Ok (written_value negative ds es, r)
unfolding number_at
by_parts s ds es r negative whole fraction after sign some point fits = rw (whole, fraction, after, sign, some, point, fits) refl

number_again : (n : Numeral) (r : List ℕ) → IsNumeral n → IsValue (numeral_value n) → Stops r → number_at (numeral_text n ++ r) ≡ Ok (numeral_value n, r)
unfolding number_at
number_again n r h limit stops =
    let sign = sign_again n.sign n r h in
    let regrouped : body n ++ r ≡ n.whole ++ (optional_part 46 n.decimals ++ r) = append_assoc n.whole (optional_part 46 n.decimals) r in
    let digits = digits_again n.whole (optional_part 46 n.decimals ++ r) h.0 (NoDigit-optional n.decimals r stops) in
    let decimals = decimals_again n.decimals r h.1 stops in
    let unsigned : after_sign (numeral_text n ++ r) ≡ n.whole ++ (optional_part 46 n.decimals ++ r) = sign.0 ∙ regrouped in
    let whole : whole_at (numeral_text n ++ r) ≡ n.whole = ap digits_at unsigned ∙ digits.0 in
    let after : after_digits (after_sign (numeral_text n ++ r)) ≡ optional_part 46 n.decimals ++ r = ap after_digits unsigned ∙ digits.1 in
    let fraction : fraction_at (numeral_text n ++ r) ≡ digits_of n.decimals = ap (λ (t : List ℕ). digits_of (decimals_at t)) after ∙ decimals.0 in
    let end : after_number (numeral_text n ++ r) ≡ r = ap after_decimals after ∙ decimals.1 in
    by_parts (numeral_text n ++ r) n.whole (digits_of n.decimals) r (is_negative n.sign) whole fraction end sign.1
    (some_digits (length n.whole) (length (digits_of n.decimals)) h.2) (begins_stops r stops) (is_limited (numeral_value n) limit)

number_begins : (c : ℕ) (n : Numeral) (r : List ℕ) → is_ascii_digit c ≡ false → c ≢ 46 → c ≢ 43 → c ≢ 45 → IsNumeral n → begins c (numeral_text n ++ r) ≡ false
number_begins c n r digit point positive negative h = begins_not c (numeral_text n ++ r) (λ t e. numeral_not c n r t digit point positive negative h e)

operator_again : (operator : Operator) (r : List ℕ) → (operator_at (operator_byte operator ∷ r) ≡ Ok operator) ×
    (begins 93 (operator_byte operator ∷ r) ≡ false)
unfolding operator_at
operator_again Add r = (refl, refl)
operator_again Subtract r = (refl, refl)
operator_again Multiply r = (refl, refl)
operator_again Divide r = (refl, refl)

abbrev Read : Type 0
Read = Result (List Token × List ℕ) ItemRefusal

abbrev read : List Token → List ℕ → Read
read ts r = Ok (ts, r)

-- the text of a real value is read as its tokens
mutual
  pub real_again : (place : ℕ → ℕ) (v : Real) (r : List ℕ) (room : ℕ) (found : List Token) → IsReal v → IsWithinLimit v → Stops r →
      length (real_text v ++ r) < room
      → real_at place room found (real_text v ++ r) ≡ read (found ++ tokens_of place v r) r
  real_again place (number n) r room found h limit stops fits =
      let some : 0 < room = omega (arith, fits) in
      rw (
        real_step place room found (numeral_text n ++ r) some,
        number_begins 35 n r refl (λ q. omega arith) (λ q. omega arith) (λ q. omega arith) h,
        number_begins 91 n r refl (λ q. omega arith) (λ q. omega arith) (λ q. omega arith) h,
        number_again n r h limit stops,
      ) refl
  real_again place (parameter v) r room found h limit stops fits =
      let some : 0 < room = omega (arith, fits) in
      let first = token_at place mark.Parameter (35 ∷ (real_text v ++ r)) in
      let inner = real_again place v r (room - 1) (found ++ (first ∷ [])) h limit stops (omega (arith, fits)) in
      rw (real_step place room found (35 ∷ (real_text v ++ r)) some)
      (inner ∙ ap (λ (ts : List Token). read ts r) (append_assoc found (first ∷ []) (tokens_of place v r)))
  real_again place (bracket v rest) r room found h limit stops fits =
      let some : 0 < room = omega (arith, fits) in
      let all = 91 ∷ ((real_text v ++ rest_text rest) ++ r) in
      let open_token = token_at place mark.Open all in
      let regrouped : (real_text v ++ rest_text rest) ++ r ≡ real_text v ++ (rest_text rest ++ r) = append_assoc (real_text v) (rest_text rest) r in
      let longer = ap length regrouped in
      let first = real_again place v (rest_text rest ++ r) (room - 1) (found ++ (open_token ∷ [])) h.0 limit.0 (rest_stops rest r)
      (omega (arith, fits, longer)) in
      let second = rest_again place rest r (room - 1) ((found ++ (open_token ∷ [])) ++ tokens_of place v (rest_text rest ++ r)) h.1 limit.1 stops
      (omega (arith, fits, longer, length-append (real_text v) (rest_text rest ++ r))) in
      let inner : real_at place (room - 1) (found ++ (open_token ∷ [])) ((real_text v ++ rest_text rest) ++ r)
      ≡ read ((found ++ (open_token ∷ [])) ++ tokens_of place v (rest_text rest ++ r)) (rest_text rest ++ r) =
      ap (λ (t : List ℕ). real_at place (room - 1) (found ++ (open_token ∷ [])) t) regrouped ∙ first in
      rw (real_step place room found all some, inner)
      (second ∙ ap (λ (ts : List Token). read ts r) (simp append_assoc))

  pub rest_again : (place : ℕ → ℕ) (rest : Rest) (r : List ℕ) (room : ℕ) (found : List Token) → IsRest rest → IsRestWithinLimit rest → Stops r →
      length (rest_text rest ++ r) < room
      → rest_at place room found (rest_text rest ++ r) ≡ read (found ++ rest_tokens place rest r) r
  rest_again place close r room found h limit stops fits =
      let some : 0 < room = omega (arith, fits) in
      rw (rest_step place room found (93 ∷ r) some) refl
  rest_again place (next operator v rest) r room found h limit stops fits =
      let some : 0 < room = omega (arith, fits) in
      let all = operator_byte operator ∷ ((real_text v ++ rest_text rest) ++ r) in
      let sign = token_at place (mark.Operator operator) all in
      let regrouped : (real_text v ++ rest_text rest) ++ r ≡ real_text v ++ (rest_text rest ++ r) = append_assoc (real_text v) (rest_text rest) r in
      let longer = ap length regrouped in
      let first = real_again place v (rest_text rest ++ r) (room - 1) (found ++ (sign ∷ [])) h.0 limit.0 (rest_stops rest r) (omega (arith, fits, longer)) in
      let second = rest_again place rest r (room - 1) ((found ++ (sign ∷ [])) ++ tokens_of place v (rest_text rest ++ r)) h.1 limit.1 stops
      (omega (arith, fits, longer, length-append (real_text v) (rest_text rest ++ r))) in
      let inner : real_at place (room - 1) (found ++ (sign ∷ [])) ((real_text v ++ rest_text rest) ++ r)
      ≡ read ((found ++ (sign ∷ [])) ++ tokens_of place v (rest_text rest ++ r)) (rest_text rest ++ r) =
      ap (λ (t : List ℕ). real_at place (room - 1) (found ++ (sign ∷ [])) t) regrouped ∙ first in
      let begins_with = operator_again operator ((real_text v ++ rest_text rest) ++ r) in
      rw (rest_step place room found all some, begins_with.1, begins_with.0, inner)
      (second ∙ ap (λ (ts : List Token). read ts r) (simp append_assoc))

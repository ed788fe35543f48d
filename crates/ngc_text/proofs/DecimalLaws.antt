-- A number's decimal text reads as the number, and a text that reads as a number is its decimal
-- text.
use Rattle.std.proofs.Common.{◌≡◌, ◌⊎◌, inl, inr, ℕ, zero, suc, ◌<◌, ◌^◌, ap, subst, Bool, true, false, Some, None, List, [], ◌∷◌, length, get_or, refl, sym}
use Rattle.std.proofs.Common.{◌∙◌, arith}
use Rattle.std.specs.Prelude.{decimal, ◌==◌, ◌&&◌, ◌||◌, not, if◌then◌else◌}
use Rattle.std.specs.Char.{is_ascii_digit}
use Rattle.std.specs.Str.{all_ascii_digits}
use Rattle.std.specs.Str.Parse.{digits_value}
use Rattle.std.proofs.lemmas.Bool.{and_parts}
use Rattle.std.proofs.lemmas.Bool.Decides.{nat_tests}
use Rattle.std.proofs.lemmas.Str.Parse.{IsNumeralModel, numerals_by_value, tells_all_ascii_digits}
use Rattle.std.proofs.lemmas.Fmt.{digits_decimal, digits_value-decimal, decimal-digits_value, decimal_nonempty, first_decimal, decimal_digit}
use Rattle.ngc_text.specs.Decimals.{are_digits, decimal_in}
use Rattle.ngc_text.proofs.SplitTexts.{lacks}

own : IsNumeralModel (λ ds. all_ascii_digits ds ≡ true) (digits_value 10)
own = numerals_by_value _ tells_all_ascii_digits

pub first_digit : (d : ℕ) (ds : List ℕ) → are_digits (d ∷ ds) ≡ true → is_ascii_digit d ≡ true
first_digit d ds h = (and_parts (is_ascii_digit d) (all_ascii_digits ds) (and_parts (all_ascii_digits (d ∷ ds)) _ h).0).0

digits_from : (t : List ℕ) → 0 < length t → all_ascii_digits t ≡ true → (48 < get_or t 0 0) ⊎ (length t ≡ 1) → are_digits t ≡ true
digits_from [] some all lead = absurd (omega (arith, some))
digits_from (d ∷ ds) some all (inl lead) = rw all (grind (arith, nat_tests))
digits_from (d ∷ ds) some all (inr one) = rw all (grind (arith, nat_tests))

pub decimal_digits : (n : ℕ) → n < 2 ^ 64 → are_digits (decimal n) ≡ true
decimal_digits zero h = subst (λ (t : List ℕ). are_digits t ≡ true) (sym (decimal_digit 0 (omega arith))) refl
decimal_digits (suc n) h =
    digits_from (decimal (suc n)) (decimal_nonempty (suc n) h) (digits_decimal own (suc n) h) (inl (first_decimal (suc n) (omega arith) h))

pub decimal_in-decimal : (n : ℕ) → n < 2 ^ 64 → decimal_in (decimal n) ≡ Some n
decimal_in-decimal n h = rw (decimal_digits n h) (ap Some (digits_value-decimal own n h))

lead_of : (t : List ℕ) → are_digits t ≡ true → (all_ascii_digits t ≡ true) × (0 < length t) × (get_or t 0 0 ≡ 48 → length t ≡ 1)
lead_of [] h = absurd (cc h)
lead_of (d ∷ ds) h =
    let parts = and_parts (all_ascii_digits (d ∷ ds)) (not (d == 48) || (length ds == 0)) h in
    (parts.0, omega arith, λ e. grind (arith, nat_tests, parts.1, e))

spelled_size : (t : List ℕ) → are_digits t ≡ true → digits_value 10 t < 2 ^ 64 → decimal (digits_value 10 t) ≡ t
spelled_size t h small = let l = lead_of t h in decimal-digits_value own t l.0 l.1 l.2 small

some_same : {A : Type 0} (x y : A) → Some x ≡ Some y → x ≡ y
some_same x y e = cc e

size_at : (b : Bool) (v n : ℕ) → (if b then Some v else None) ≡ Some n → (b ≡ true) × (v ≡ n)
size_at true v n e = (refl, some_same v n e)
size_at false v n e = absurd (cc e)

pub decimal_spelled : (t : List ℕ) (n : ℕ) → decimal_in t ≡ Some n → n < 2 ^ 64 → t ≡ decimal n
decimal_spelled t n e small =
    let at = size_at (are_digits t) (digits_value 10 t) n e in
    let small_too : digits_value 10 t < 2 ^ 64 = omega (arith, at.1, small) in
    sym (spelled_size t at.0 small_too) ∙ ap decimal at.1

-- ---- digits are no spaces and no line feeds

digits_lack : (s : ℕ) (t : List ℕ) → s < 45 → all_ascii_digits t ≡ true → lacks s t ≡ true
digits_lack s [] low h = refl
digits_lack s (d ∷ ds) low h =
    let parts = and_parts (is_ascii_digit d) (all_ascii_digits ds) h in
    rw (digits_lack s ds low parts.1) (other s d low parts.0) where
      other : (s d : ℕ) → s < 45 → is_ascii_digit d ≡ true → (not (d == s) && true) ≡ true
      other s d low h = grind (arith, nat_tests)

pub decimal_lacks : (s n : ℕ) → s < 45 → n < 2 ^ 64 → lacks s (decimal n) ≡ true
decimal_lacks s n low h = digits_lack s (decimal n) low (digits_decimal own n h)

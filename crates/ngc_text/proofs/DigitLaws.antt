-- Sizes of digits as they are read, up to a bound.
use Rattle.std.proofs.Common.{◌≡◌, ℕ, zero, suc, ◌+◌, ◌*◌, ◌-◌, ◌<◌, min, ap, subst, Bool, true, false, List, [], ◌∷◌, length, take, get_or, refl, sym, ◌∙◌}
use Rattle.std.proofs.Common.{arith}
use Rattle.std.specs.Prelude.{◌&&◌}
use Rattle.std.specs.Char.{is_ascii_digit, digit_value}
use Rattle.std.specs.Str.{all_ascii_digits}
use Rattle.std.specs.Str.Parse.{digits_value}
use Rattle.std.proofs.lemmas.Bool.{and_parts}
use Rattle.std.proofs.lemmas.Bool.Decides.{nat_tests}
use Rattle.std.proofs.lemmas.Int.Digits.{digits_value_more}
use Rattle.ngc_text.specs.Decimals.{limited}

-- a byte that is no digit
pub digits_fail : (ds : List ℕ) (i : ℕ) → i < length ds → is_ascii_digit (get_or ds i 0) ≡ false → all_ascii_digits ds ≡ false
digits_fail [] i h e = absurd (omega (arith, h))
digits_fail (d ∷ ds) zero h e = rw e refl
digits_fail (d ∷ ds) (suc i) h e = rw (digits_fail ds i (omega arith) e) (no_more (is_ascii_digit d)) where
  no_more : (b : Bool) → (b && false) ≡ false
  no_more true = refl
  no_more false = refl

digits_next : (ds : List ℕ) (i : ℕ) → i < length ds → all_ascii_digits (take i ds) ≡ true → is_ascii_digit (get_or ds i 0) ≡ true →
    all_ascii_digits (take (suc i) ds) ≡ true
digits_next [] i h all e = absurd (omega (arith, h))
digits_next (d ∷ ds) zero h all e = rw e refl
digits_next (d ∷ ds) (suc i) h all e =
    let p = and_parts (is_ascii_digit d) (all_ascii_digits (take i ds)) all in
    rw (p.0, digits_next ds i (omega arith) p.1 e) refl

pub digits_more : (ds : List ℕ) (i j : ℕ) → i < length ds → j ≡ suc i → all_ascii_digits (take i ds) ≡ true → is_ascii_digit (get_or ds i 0) ≡ true →
    all_ascii_digits (take j ds) ≡ true
digits_more ds i j h e all d = subst (λ (k : ℕ). all_ascii_digits (take k ds) ≡ true) (sym e) (digits_next ds i h all d)

digit_of : (d : ℕ) → is_ascii_digit d ≡ true → digit_value d ≡ d - 48
digit_of d h = grind (arith, nat_tests)

limited_step : (v d : ℕ) → min (10 * min v 10000000000 + d) 10000000000 ≡ min (v * 10 + d) 10000000000
limited_step v d = omega arith

-- one more digit
pub size_more : (ds : List ℕ) (i size d next : ℕ) → i < length ds → size ≡ limited (digits_value 10 (take i ds)) → is_ascii_digit (get_or ds i 0) ≡ true
    → d ≡ get_or ds i 0 - 48 → next ≡ min (10 * size + d) 10000000000 → next ≡ limited (digits_value 10 (take (i + 1) ds))
size_more ds i size d next h e digit is_d is_next =
    is_next ∙ ap (λ (n : ℕ). min (10 * n + d) 10000000000) e
    ∙ limited_step (digits_value 10 (take i ds)) d
    ∙ ap (λ (n : ℕ). min (digits_value 10 (take i ds) * 10 + n) 10000000000) (is_d ∙ sym (digit_of (get_or ds i 0) digit))
    ∙ ap limited (sym (digits_value_more 10 ds i h))

-- The text of a signed number reads as the number, and a text that reads as a number is the
-- number's text.
use Rattle.std.proofs.Common.{◌≡◌, ◌⊎◌, inl, inr, ℕ, zero, suc, ◌<◌, ◌^◌, ap, Bool, true, false, Option, Some, None, List, [], ◌∷◌, refl, sym, ◌∙◌, arith}
use Rattle.std.specs.Prelude.{ℤ, pos, negsuc, decimal, ◌==◌, ◌&&◌, not, if◌then◌else◌}
use Rattle.std.specs.Char.{is_ascii_digit}
use Rattle.std.specs.Fmt.{signed_decimal}
use Rattle.std.specs.Int.Signed.{mag}
use Rattle.std.specs.Option.{option_map}
use Rattle.std.proofs.lemmas.Bool.Decides.{nat_tests}
use Rattle.ngc_text.specs.Decimals.{are_digits, decimal_in}
use Rattle.ngc_text.proofs.SplitTexts.{lacks}
use Rattle.ngc_text.proofs.DecimalLaws.{first_digit, decimal_digits, decimal_in-decimal, decimal_spelled, decimal_lacks}
use Rattle.ngc_certificate_text.specs.Number.{negated, number_in}

not_minus : (d : ℕ) → is_ascii_digit d ≡ true → (d == 45) ≡ false
not_minus d h = grind (arith, nat_tests)

number_of_digits : (t : List ℕ) → are_digits t ≡ true → number_in t ≡ option_map pos (decimal_in t)
unfolding number_in
number_of_digits [] h = absurd (cc h)
number_of_digits (d ∷ ds) h = rw (not_minus d (first_digit d ds h)) refl

number_behind_minus : (t : List ℕ) → number_in (45 ∷ t) ≡ negated (decimal_in t)
unfolding number_in
number_behind_minus t = refl

pub number_in-decimal : (n : ℕ) → n < 2 ^ 64 → number_in (decimal n) ≡ Some (pos n)
number_in-decimal n h = number_of_digits (decimal n) (decimal_digits n h) ∙ ap (option_map pos) (decimal_in-decimal n h)

pub number_in-signed : (z : ℤ) → mag z < 2 ^ 63 → number_in (signed_decimal z) ≡ Some z
number_in-signed (pos n) h = number_in-decimal n (omega arith)
number_in-signed (negsuc n) h = number_behind_minus (decimal (suc n)) ∙ ap negated (decimal_in-decimal (suc n) (omega arith))

negated_some : (o : Option ℕ) (z : ℤ) → negated o ≡ Some z → (n : ℕ) × (o ≡ Some (suc n)) × (z ≡ negsuc n)
negated_some None z e = absurd (cc e)
negated_some (Some zero) z e = absurd (cc e)
negated_some (Some (suc n)) z e = (n, refl, cc e)

map_some : (o : Option ℕ) (z : ℤ) → option_map pos o ≡ Some z → (n : ℕ) × (o ≡ Some n) × (z ≡ pos n)
map_some None z e = absurd (cc e)
map_some (Some n) z e = (n, refl, cc e)

by_sign : (c : Bool) (x y : Option ℤ) (z : ℤ) → (if c then x else y) ≡ Some z → ((c ≡ true) × (x ≡ Some z)) ⊎ ((c ≡ false) × (y ≡ Some z))
by_sign true x y z e = inl (refl, e)
by_sign false x y z e = inr (refl, e)

minus_byte : (b : ℕ) → (b == 45) ≡ true → b ≡ 45
minus_byte b h = grind (arith, nat_tests)

pub number_spelled : (t : List ℕ) (z : ℤ) → number_in t ≡ Some z → mag z < 2 ^ 63 → t ≡ signed_decimal z
unfolding number_in
number_spelled [] z e small = absurd (cc e)
number_spelled (b ∷ rest) z e small = elim (by_sign (b == 45) (negated (decimal_in rest)) (option_map pos (decimal_in (b ∷ rest))) z e) [
  | inl p ↦
      let s = negated_some (decimal_in rest) z p.1 in
      let size : mag z ≡ s.0 = ap mag s.2 in
      let digits = decimal_spelled rest (suc s.0) s.1 (omega (arith, size, small)) in
      ap (λ (x : ℕ). x ∷ rest) (minus_byte b p.0) ∙ ap (λ (r : List ℕ). 45 ∷ r) digits ∙ ap signed_decimal (sym s.2)
  | inr p ↦
      let s = map_some (decimal_in (b ∷ rest)) z p.1 in
      let size : mag z ≡ s.0 = ap mag s.2 in
      decimal_spelled (b ∷ rest) s.0 s.1 (omega (arith, size, small)) ∙ ap signed_decimal (sym s.2)
]

-- a signed number contains no space and no line feed
pub signed_lacks : (s : ℕ) (z : ℤ) → s < 45 → mag z < 2 ^ 63 → lacks s (signed_decimal z) ≡ true
signed_lacks s (pos n) low h = decimal_lacks s n low (omega arith)
signed_lacks s (negsuc n) low h = rw (decimal_lacks s (suc n) low (omega arith)) (other s low) where
  other : (s : ℕ) → s < 45 → (not (45 == s) && true) ≡ true
  other s low = grind (arith, nat_tests)

-- The numeral that is written for a value has this value.
use Rattle.std.proofs.Common.{◌≡◌, ℕ, zero, suc, ◌+◌, ◌-◌, ◌*◌, ◌/◌, ◌%◌, ◌^◌, ◌<◌, ◌≤◌, ℤ, pos, negsuc, ap, Bool, true, false, Option, Some, None}
use Rattle.std.proofs.Common.{List, [], ◌∷◌, ◌++◌, length, take, refl, ◌∙◌, arith}
use Rattle.std.specs.Prelude.{decimal, unsigned_abs, ◌==◌, if◌then◌else◌}
use Rattle.std.specs.Char.{is_ascii_digit}
use Rattle.std.specs.List.{fold}
use Rattle.std.proofs.lemmas.Bool.Decides.{nat_tests}
use Rattle.std.proofs.lemmas.Fmt.{digits_decimal, digits_value-decimal, decimal_nonempty, length-decimal-le}
use Rattle.std.proofs.lemmas.List.{length-take, length-append}
use Rattle.std.proofs.lemmas.Str.Parse.{IsNumeralModel, IsDigitsTest, FoldsDigits, numerals_by_fold}
use Rattle.ngc_fixed_length.specs.Limits.{MILLION, VALUE_LIMIT, IsValue}
use Rattle.ngc_fixed_length.specs.Rounding.{nearest_size}
use Rattle.ngc_text.specs.Millimetres.{decimals, kept, number_text, size_text, length_text}
use Rattle.ngc_line_reader.specs.Grammar.{Sign, bare, minus, Numeral, numeral_text, optional_part, IsDigits, digits_of, IsNumeral}
use Rattle.ngc_line_reader.specs.Numbers.{digits_value, signed, is_negative, numeral_value}
use Rattle.ngc_line_reader.proofs.Rounded.{digits_value-append, nearest-whole, nearest-short}

-- ---- whole numbers

abbrev then_digit : ℕ → ℕ → ℕ
then_digit n d = 10 * n + (d - 48)

digit_in : (d : ℕ) → is_ascii_digit d ≡ true → (48 ≤ d) × (d ≤ 57)
digit_in d h = (grind (arith, nat_tests), grind (arith, nat_tests))

pub digit_is : (d : ℕ) → 48 ≤ d → d ≤ 57 → is_ascii_digit d ≡ true
digit_is d low high = grind (arith, nat_tests)

tells : IsDigitsTest IsDigits
tells = record {
  empty = tt;
  parts = λ c cs h. (digit_in c h.0, h.1);
  more = λ c cs k h. (digit_is c k.0 k.1, h);
}

folds : FoldsDigits (λ n ds. fold then_digit n ds)
folds = record {
  empty = λ n. refl;
  more = λ n c cs h. let e : 10 * n + (c - 48) ≡ n * 10 + (c - 48) = omega arith in ap (λ (m : ℕ). fold then_digit m cs) e;
}

own : IsNumeralModel IsDigits digits_value
own = numerals_by_fold IsDigits tells (λ n ds. fold then_digit n ds) folds

-- ---- decimals

-- the six digits of some millionths
abbrev pub six_digits : ℕ → List ℕ
six_digits n =
    (48 + n / 100000) ∷ (48 + n / 10000 % 10) ∷ (48 + n / 1000 % 10) ∷ (48 + n / 100 % 10) ∷ (48 + n / 10 % 10) ∷ (48 + n % 10) ∷ []

-- how many of them are written
abbrev pub places : ℕ → ℕ
places n =
    if n % 100000 == 0 then 1 else (if n % 10000 == 0 then 2 else (if n % 1000 == 0 then 3 else (if n % 100 == 0 then 4
    else (if n % 10 == 0 then 5 else 6))))

abbrev pub decimals_of : ℕ → Option (List ℕ)
decimals_of n = if n == 0 then None else Some (take (places n) (six_digits n))

decimals_text : (n : ℕ) → optional_part 46 (decimals_of n) ≡ take (kept n) (decimals n)
decimals_text n = by_tests (n == 0) (n % 100000 == 0) (n % 10000 == 0) (n % 1000 == 0) (n % 100 == 0) (n % 10 == 0) where
  by_tests : (a b c d e f : Bool) →
      optional_part 46 (if a then None else Some (take (if b then 1 else (if c then 2 else (if d then 3 else (if e then 4 else (if f then 5 else 6))))) (six_digits n)))
      ≡ take (if a then 0 else (if b then 2 else (if c then 3 else (if d then 4 else (if e then 5 else (if f then 6 else 7)))))) (decimals n)
  by_tests true b c d e f = refl
  by_tests false true c d e f = refl
  by_tests false false true d e f = refl
  by_tests false false false true e f = refl
  by_tests false false false false true f = refl
  by_tests false false false false false true = refl
  by_tests false false false false false false = refl

-- some of the digits, and the number that they write
pub record AreDecimals (n : ℕ) (ds : List ℕ) : Type 0 where
  pub digits : IsDigits ds
  pub few : length ds ≤ 6
  pub value : digits_value ds * 10 ^ (6 - length ds) ≡ n

low_digit : (m : ℕ) → is_ascii_digit (48 + m % 10) ≡ true
low_digit m = digit_is (48 + m % 10) (omega arith) (omega arith)

high_digit : (n : ℕ) → n < 1000000 → is_ascii_digit (48 + n / 100000) ≡ true
high_digit n h = digit_is (48 + n / 100000) (omega arith) (omega (arith, h))

zero_of : (n : ℕ) → (n == 0) ≡ true → n ≡ 0
zero_of n h = grind (arith, nat_tests)

-- the leading digits
leading_1 : (n : ℕ) → n ≡ n / 100000 * 100000 + n % 100000
leading_1 n = omega arith

leading_2 : (n : ℕ) → n ≡ (10 * (n / 100000) + n / 10000 % 10) * 10000 + n % 10000
leading_2 n = omega arith

leading_3 : (n : ℕ) → n ≡ (10 * (10 * (n / 100000) + n / 10000 % 10) + n / 1000 % 10) * 1000 + n % 1000
leading_3 n = let a = leading_2 n in let e : n % 10000 ≡ n / 1000 % 10 * 1000 + n % 1000 = omega arith in omega (arith, a, e)

leading_4 : (n : ℕ) → n ≡ (10 * (10 * (10 * (n / 100000) + n / 10000 % 10) + n / 1000 % 10) + n / 100 % 10) * 100 + n % 100
leading_4 n = let a = leading_3 n in let e : n % 1000 ≡ n / 100 % 10 * 100 + n % 100 = omega arith in omega (arith, a, e)

leading_5 : (n : ℕ) → n ≡ (10 * (10 * (10 * (10 * (n / 100000) + n / 10000 % 10) + n / 1000 % 10) + n / 100 % 10) + n / 10 % 10) * 10 + n % 10
leading_5 n = let a = leading_4 n in let e : n % 100 ≡ n / 10 % 10 * 10 + n % 10 = omega arith in omega (arith, a, e)

digits_1 : (n : ℕ) → n < 1000000 → n % 100000 ≡ 0 → AreDecimals n (take 1 (six_digits n))
digits_1 n h e = record { digits = (high_digit n h, tt); few = omega arith; value = let p = leading_1 n in omega (arith, p, e) }

digits_2 : (n : ℕ) → n < 1000000 → n % 10000 ≡ 0 → AreDecimals n (take 2 (six_digits n))
digits_2 n h e = record { digits = (high_digit n h, (low_digit (n / 10000), tt)); few = omega arith; value = let p = leading_2 n in omega (arith, p, e) }

digits_3 : (n : ℕ) → n < 1000000 → n % 1000 ≡ 0 → AreDecimals n (take 3 (six_digits n))
digits_3 n h e = record { digits = (high_digit n h, (low_digit (n / 10000), (low_digit (n / 1000), tt))); few = omega arith; value = let p = leading_3 n in omega (arith, p, e) }

digits_4 : (n : ℕ) → n < 1000000 → n % 100 ≡ 0 → AreDecimals n (take 4 (six_digits n))
digits_4 n h e = record { digits = (high_digit n h, (low_digit (n / 10000), (low_digit (n / 1000), (low_digit (n / 100), tt)))); few = omega arith; value = let p = leading_4 n in omega (arith, p, e) }

digits_5 : (n : ℕ) → n < 1000000 → n % 10 ≡ 0 → AreDecimals n (take 5 (six_digits n))
digits_5 n h e = record { digits = (high_digit n h, (low_digit (n / 10000), (low_digit (n / 1000), (low_digit (n / 100), (low_digit (n / 10), tt))))); few = omega arith; value = let p = leading_5 n in omega (arith, p, e) }

digits_6 : (n : ℕ) → n < 1000000 → AreDecimals n (take 6 (six_digits n))
digits_6 n h = record { digits = (high_digit n h, (low_digit (n / 10000), (low_digit (n / 1000), (low_digit (n / 100), (low_digit (n / 10), (low_digit n, tt)))))); few = omega arith; value = let p = leading_5 n in omega (arith, p) }

-- none at the end is a zero
pub decimals_are : (n : ℕ) → n < 1000000 → AreDecimals n (digits_of (decimals_of n))
decimals_are n h = by_tests (n == 0) (n % 100000 == 0) (n % 10000 == 0) (n % 1000 == 0) (n % 100 == 0) (n % 10 == 0) refl refl refl refl refl refl where
  by_tests : (a b c d e f : Bool) → (n == 0) ≡ a → (n % 100000 == 0) ≡ b → (n % 10000 == 0) ≡ c → (n % 1000 == 0) ≡ d → (n % 100 == 0) ≡ e → (n % 10 == 0) ≡ f
      → AreDecimals n (digits_of (if a then None else Some (take (if b then 1 else (if c then 2 else (if d then 3 else (if e then 4 else (if f then 5 else 6))))) (six_digits n))))
  by_tests true b c d e f p q r s t u = record { digits = tt; few = omega arith; value = let z = zero_of n p in omega (arith, z) }
  by_tests false true c d e f p q r s t u = digits_1 n h (zero_of (n % 100000) q)
  by_tests false false true d e f p q r s t u = digits_2 n h (zero_of (n % 10000) r)
  by_tests false false false true e f p q r s t u = digits_3 n h (zero_of (n % 1000) s)
  by_tests false false false false true f p q r s t u = digits_4 n h (zero_of (n % 100) t)
  by_tests false false false false false true p q r s t u = digits_5 n h (zero_of (n % 10) u)
  by_tests false false false false false false p q r s t u = digits_6 n h

-- ---- the numeral of a value

abbrev pub sign_of : ℤ → Sign
sign_of (pos n) = bare
sign_of (negsuc n) = minus

abbrev pub size_numeral : Sign → ℕ → Numeral
size_numeral sign n = record { sign = sign; whole = decimal (n / 1000000); decimals = decimals_of (n % 1000000) }

abbrev pub numeral_of : ℤ → Numeral
numeral_of z = size_numeral (sign_of z) (unsigned_abs z)

size_body : (n : ℕ) → decimal (n / 1000000) ++ optional_part 46 (decimals_of (n % 1000000)) ≡ size_text n
unfolding number_text
size_body n = ap (λ (t : List ℕ). decimal (n / 1000000) ++ t) (decimals_text (n % 1000000))

-- it is written as the value's text
pub numeral_is_text : (z : ℤ) → numeral_text (numeral_of z) ≡ length_text z
unfolding length_text
numeral_is_text (pos n) = size_body n
numeral_is_text (negsuc n) = ap (λ (t : List ℕ). 45 ∷ t) (size_body (suc n))

small : (n : ℕ) → n ≤ VALUE_LIMIT → n / 1000000 < 2 ^ 64
small n h = omega (arith, h)

below : (n : ℕ) → n % 1000000 < 1000000
below n = omega arith

pub numeral_is : (z : ℤ) → IsValue z → IsNumeral (numeral_of z)
numeral_is z h =
    let n = unsigned_abs z in
    let some = decimal_nonempty (n / 1000000) (small n h) in
    (digits_decimal own (n / 1000000) (small n h), (decimals_are (n % 1000000) (below n)).digits, omega (arith, some))

positive : (k : ℕ) → 0 < 10 ^ k
positive zero = omega arith
positive (suc k) = let p : 10 ^ suc k ≡ 10 * 10 ^ k = grind arith in omega (arith, positive k, p)

-- the number that its digits write, rounded to millionths
size_value : (n : ℕ) (whole ds : List ℕ) → digits_value whole ≡ n / 1000000 → AreDecimals (n % 1000000) ds
    → nearest_size (digits_value (whole ++ ds) * MILLION) (10 ^ length ds) ≡ n
size_value n whole ds w d =
    let short = nearest-short (digits_value ds) (length ds) d.few in
    let total : nearest_size (digits_value (whole ++ ds) * MILLION) (10 ^ length ds) ≡ digits_value whole * MILLION + nearest_size (digits_value ds * MILLION) (10 ^ length ds) =
    ap (λ (k : ℕ). nearest_size (k * MILLION) (10 ^ length ds)) (digits_value-append whole ds)
    ∙ nearest-whole (digits_value whole) (10 ^ length ds) (digits_value ds) (positive (length ds)) in
    omega (arith, total, short, d.value, w)

signed_by : (z : ℤ) → signed (is_negative (sign_of z)) (unsigned_abs z) ≡ z
signed_by (pos n) = refl
signed_by (negsuc n) = refl

pub numeral_value_is : (z : ℤ) → IsValue z → numeral_value (numeral_of z) ≡ z
numeral_value_is z h =
    let n = unsigned_abs z in
    ap (λ (k : ℕ). signed (is_negative (sign_of z)) k)
    (size_value n (decimal (n / 1000000)) (digits_of (decimals_of (n % 1000000))) (digits_value-decimal own (n / 1000000) (small n h))
    (decimals_are (n % 1000000) (below n)))
    ∙ signed_by z

-- ---- the length of its text

few_decimals : (n : ℕ) → length (take (kept n) (decimals n)) ≤ 7
few_decimals n = omega (arith, length-take (kept n) (decimals n))

few_digits : (n : ℕ) → n ≤ VALUE_LIMIT → length (decimal (n / 1000000)) ≤ 10
few_digits n h = length-decimal-le 10 (n / 1000000) (omega arith) (omega (arith, h)) (omega (arith, h))

size_short : (n : ℕ) → n ≤ VALUE_LIMIT → length (size_text n) ≤ 17
unfolding number_text
size_short n h =
    let joined = length-append (decimal (n / 1000000)) (take (kept (n % 1000000)) (decimals (n % 1000000))) in
    omega (arith, joined, few_digits n h, few_decimals (n % 1000000))

pub value_short : (z : ℤ) → IsValue z → length (length_text z) ≤ 18
unfolding length_text
value_short (pos n) h = omega (arith, size_short n h)
value_short (negsuc n) h = omega (arith, size_short (suc n) h)

-- A number's digits, rounded to millionths.
use Rattle.std.proofs.Common.{◌≡◌, ℕ, zero, suc, ◌+◌, ◌-◌, ◌*◌, ◌/◌, ◌%◌, ◌^◌, ◌<◌, ◌≤◌, min, ap, Bool, true, false, List, [], ◌∷◌, ◌++◌, length, take, drop}
use Rattle.std.proofs.Common.{Ok, Err, refl, sym, ◌∙◌, arith, lit<}
use Rattle.std.proofs.Math.Nat.{pow-le-pow_right}
use Rattle.std.specs.Prelude.{nat_le, if◌then◌else◌}
use Rattle.std.specs.Char.{is_ascii_digit}
use Rattle.std.specs.List.{fold}
use Rattle.std.proofs.lemmas.List.{take-append-drop, length-take, length-drop}
use Rattle.std.proofs.lemmas.List.Sums.{fold-append}
use Rattle.std.proofs.lemmas.Nat.{div-mul-add, pow-add}
use Rattle.std.proofs.lemmas.Bool.Decides.{nat_tests}
use Rattle.std.proofs.lemmas.Bool.{leb-true, leb-false, lt-leb}
use Rattle.ngc_fixed_length.specs.declared.fault.NumberFault.TheVariants.{TooLarge}
use Rattle.ngc_fixed_length.specs.Rounding.{nearest_size}
use Rattle.ngc_fixed_length.specs.Limits.{MILLION, VALUE_LIMIT, limited}
use Rattle.ngc_line_reader.specs.Grammar.{IsDigits}
use Rattle.ngc_line_reader.specs.Scan.{digits_at}
use Rattle.ngc_line_reader.proofs.Digits.{digits_at-all}
use Rattle.ngc_line_reader.specs.Numbers.{digits_value, signed, written_value}

abbrev then_digit : ℕ → ℕ → ℕ
then_digit n d = 10 * n + (d - 48)

power : (n : ℕ) → 10 ^ suc n ≡ 10 * 10 ^ n
power n = grind (arith)

fold_from : (a : ℕ) (ds : List ℕ) → fold then_digit a ds ≡ a * 10 ^ length ds + fold then_digit 0 ds
fold_from a [] = omega arith
fold_from a (d ∷ ds) =
    let with_a = fold_from (10 * a + (d - 48)) ds in
    let with_0 = fold_from (10 * 0 + (d - 48)) ds in
    let p = power (length ds) in
    let e : a * 10 ^ suc (length ds) ≡ a * (10 * 10 ^ length ds) = ap (λ (k : ℕ). a * k) p in
    omega (arith, with_a, with_0, e)

pub digits_value-append : (ws ds : List ℕ) → digits_value (ws ++ ds) ≡ digits_value ws * 10 ^ length ds + digits_value ds
digits_value-append ws ds = fold-append then_digit 0 ws ds ∙ fold_from (digits_value ws) ds

digit_below : (d : ℕ) → is_ascii_digit d ≡ true → d - 48 < 10
digit_below d h = grind (arith, nat_tests)

pub digits_value-below : (ds : List ℕ) → IsDigits ds → digits_value ds < 10 ^ length ds
digits_value-below [] h = omega arith
digits_value-below (d ∷ ds) h =
    let rest = digits_value-below ds h.1 in
    let first = digit_below d h.0 in
    let parts = fold_from (10 * 0 + (d - 48)) ds in
    let p = power (length ds) in
    below (d - 48) (10 ^ length ds) (digits_value ds) (digits_value (d ∷ ds)) (10 ^ suc (length ds)) first rest (omega (arith, parts)) p where
      below : (a p v n q : ℕ) → a < 10 → v < p → n ≡ a * p + v → q ≡ 10 * p → n < q
      below a p v n q low rest e f = grind (arith)

positive : (k : ℕ) → 0 < 10 ^ k
positive zero = omega arith
positive (suc k) = omega (arith, positive k, power k)

-- rounding keeps whole units
pub nearest-whole : (w p v : ℕ) → 0 < p → nearest_size ((w * p + v) * MILLION) p ≡ w * MILLION + nearest_size (v * MILLION) p
nearest-whole w p v h =
    let x = 2 * (v * MILLION) + p in
    let q = x / (2 * p) in
    let m = x % (2 * p) in
    let parts : 2 * p * q + m ≡ x = omega arith in
    let below : m < 2 * p = omega arith in
    let e : 2 * ((w * p + v) * MILLION) + p ≡ (w * MILLION + q) * (2 * p) + m = omega (arith, parts) in
    ap (λ (n : ℕ). n / (2 * p)) e ∙ div-mul-add (w * MILLION + q) (2 * p) m below

-- of many decimals the seventh decides the rounding
pub nearest-seventh : (a b p : ℕ) → b < p → nearest_size ((a * p + b) * MILLION) (10000000 * p) ≡ (a + 5) / 10
nearest-seventh a b p h =
    let q = (a + 5) / 10 in
    let r = (a + 5) % 10 in
    let parts : 10 * q + r ≡ a + 5 = omega arith in
    let low : r ≤ 9 = omega arith in
    let product : (10 * q + r) * p ≡ (a + 5) * p = ap (λ (n : ℕ). n * p) parts in
    let small : r * p ≤ 9 * p = times p r 9 low in
    let e : 2 * ((a * p + b) * MILLION) + 10000000 * p ≡ q * (2 * (10000000 * p)) + 2000000 * (r * p + b) = omega (arith, product) in
    let below : 2000000 * (r * p + b) < 2 * (10000000 * p) = omega (arith, small, h) in
    ap (λ (n : ℕ). n / (2 * (10000000 * p))) e ∙ div-mul-add q (2 * (10000000 * p)) (2000000 * (r * p + b)) below where
      times : (p r k : ℕ) → r ≤ k → r * p ≤ k * p
      times p r k h = grind arith

-- a value that is too large stays so
pub limited-signed : (negative : Bool) (n : ℕ) → limited (signed negative n) ≡ (if nat_le n VALUE_LIMIT then Ok (signed negative n) else Err TooLarge)
limited-signed true zero = refl
limited-signed true (suc n) = refl
limited-signed false n = refl

-- up to six decimals are exact
pub nearest-short : (n k : ℕ) → k ≤ 6 → nearest_size (n * MILLION) (10 ^ k) ≡ n * 10 ^ (6 - k)
nearest-short n zero h = omega arith
nearest-short n (suc zero) h = omega arith
nearest-short n (suc (suc zero)) h = omega arith
nearest-short n (suc (suc (suc zero))) h = omega arith
nearest-short n (suc (suc (suc (suc zero)))) h = omega arith
nearest-short n (suc (suc (suc (suc (suc zero))))) h = omega arith
nearest-short n (suc (suc (suc (suc (suc (suc zero)))))) h = omega arith
nearest-short n (suc (suc (suc (suc (suc (suc (suc k))))))) h = absurd (omega arith)

short-below : (n k : ℕ) → k ≤ 6 → n < 10 ^ k → (n * 10 ^ (6 - k) ≤ 1000000) × (n < 10000000000)
short-below n zero h b = (omega arith, omega arith)
short-below n (suc zero) h b = (omega arith, omega arith)
short-below n (suc (suc zero)) h b = (omega arith, omega arith)
short-below n (suc (suc (suc zero))) h b = (omega arith, omega arith)
short-below n (suc (suc (suc (suc zero)))) h b = (omega arith, omega arith)
short-below n (suc (suc (suc (suc (suc zero))))) h b = (omega arith, omega arith)
short-below n (suc (suc (suc (suc (suc (suc zero)))))) h b = (omega arith, omega arith)
short-below n (suc (suc (suc (suc (suc (suc (suc k))))))) h b = absurd (omega arith)

pub record IsMillionths (ds : List ℕ) (m : ℕ) : Type 0 where
  pub value : m ≡ nearest_size (digits_value ds * MILLION) (10 ^ length ds)
  pub bound : m ≤ 1000000

pub short_millionths : (ds : List ℕ) (u : ℕ) → IsDigits ds → length ds ≤ 6 → u ≡ min (digits_value ds) 10000000000 → IsMillionths ds (u * 10 ^ (6 - length ds))
short_millionths ds u h le e =
    let b = short-below (digits_value ds) (length ds) le (digits_value-below ds h) in
    let same : u ≡ digits_value ds = omega (arith, e, b.1) in
    let times : u * 10 ^ (6 - length ds) ≡ digits_value ds * 10 ^ (6 - length ds) = ap (λ (n : ℕ). n * 10 ^ (6 - length ds)) same in
    record { value = times ∙ sym (nearest-short (digits_value ds) (length ds) le); bound = omega (arith, times, b.0) }

IsDigits-parts : (xs ys : List ℕ) → IsDigits (xs ++ ys) → IsDigits xs × IsDigits ys
IsDigits-parts [] ys h = (tt, h)
IsDigits-parts (x ∷ xs) ys h = let rest = IsDigits-parts xs ys h.1 in ((h.0, rest.0), rest.1)

seven : (j : ℕ) → 10 ^ (7 + j) ≡ 10000000 * 10 ^ j
seven j = pow-add 10 7 j

pub long_millionths : (ds : List ℕ) (u : ℕ) → IsDigits ds → 6 < length ds → u ≡ min (digits_value (take 7 ds)) 10000000000 → IsMillionths ds ((u + 5) / 10)
long_millionths ds u h lt e =
    let whole : take 7 ds ++ drop 7 ds ≡ ds = take-append-drop 7 ds in
    let digits : IsDigits (take 7 ds) × IsDigits (drop 7 ds) = IsDigits-parts (take 7 ds) (drop 7 ds) (rw whole h) in
    let front : length (take 7 ds) ≡ 7 = omega (arith, length-take 7 ds) in
    let below : digits_value (take 7 ds) < 10000000 = let b = digits_value-below (take 7 ds) digits.0 in let c = ap (λ (n : ℕ). 10 ^ n) front in
    omega (arith, b, c) in
    let same : u ≡ digits_value (take 7 ds) = omega (arith, e, below) in
    let rest = digits_value-below (drop 7 ds) digits.1 in
    let value : digits_value ds ≡ digits_value (take 7 ds) * 10 ^ length (drop 7 ds) + digits_value (drop 7 ds) =
    ap digits_value (sym whole) ∙ digits_value-append (take 7 ds) (drop 7 ds) in
    let size : length ds ≡ 7 + length (drop 7 ds) = omega (arith, length-drop 7 ds) in
    let unit : 10 ^ length ds ≡ 10000000 * 10 ^ length (drop 7 ds) = ap (λ (n : ℕ). 10 ^ n) size ∙ seven (length (drop 7 ds)) in
    record {
      value = ap (λ (n : ℕ). (n + 5) / 10) same
          ∙ sym (ap (λ (n : ℕ). nearest_size (n * MILLION) (10 ^ length ds)) value
          ∙ ap (λ (n : ℕ). nearest_size ((digits_value (take 7 ds) * 10 ^ length (drop 7 ds) + digits_value (drop 7 ds)) * MILLION) n) unit
          ∙ nearest-seventh (digits_value (take 7 ds)) (digits_value (drop 7 ds)) (10 ^ length (drop 7 ds)) rest);
      bound = omega (arith, same, below);
    }

-- the same for the number that was counted
pub long_counted : (ds : List ℕ) (u : ℕ) → IsDigits ds → 6 < length ds → u ≡ min (digits_value (digits_at (take 7 ds))) 10000000000 →
    IsMillionths ds ((u + 5) / 10)
long_counted ds u h lt e =
    let digits : IsDigits (take 7 ds) × IsDigits (drop 7 ds) = IsDigits-parts (take 7 ds) (drop 7 ds) (rw (take-append-drop 7 ds) h) in
    long_millionths ds u h lt (e ∙ ap (λ (t : List ℕ). min (digits_value t) 10000000000) (digits_at-all (take 7 ds) digits.0))

-- the number that a few digits write fits
pub few_units : (ds : List ℕ) (u : ℕ) → IsDigits ds → length ds ≤ 5 → u ≡ min (digits_value ds) 10000000000 → (u ≡ digits_value ds) × (u < 100000)
few_units ds u h short e =
    let below = digits_value-below ds h in
    let bound : 10 ^ length ds ≤ 100000 = pow-le-pow_right {n = 10} (lit< tt) short in
    (omega (arith, e, below, bound), omega (arith, e, below, bound))

-- bounded units and millionths give the written value, or both are too large
pub sized : (negative : Bool) (ws ds : List ℕ) (u m n : ℕ) → u ≡ min (digits_value ws) 10000000000 → IsMillionths ds m → n ≡ u * 1000000 + m
    → limited (signed negative n) ≡ limited (written_value negative ws ds)
sized negative ws ds u m n e f g =
    let total : nearest_size (digits_value (ws ++ ds) * MILLION) (10 ^ length ds)
    ≡ digits_value ws * MILLION + nearest_size (digits_value ds * MILLION) (10 ^ length ds) =
    ap (λ (k : ℕ). nearest_size (k * MILLION) (10 ^ length ds)) (digits_value-append ws ds)
    ∙ nearest-whole (digits_value ws) (10 ^ length ds) (digits_value ds) (positive (length ds)) in
    compared negative (digits_value ws) m n _ (omega (arith, e, g)) (total ∙ ap (λ (k : ℕ). digits_value ws * MILLION + k) (sym f.value)) where
      compared : (negative : Bool) (w m n t : ℕ) → n ≡ min w 10000000000 * 1000000 + m → t ≡ w * 1000000 + m →
          limited (signed negative n) ≡ limited (signed negative t)
      compared negative w m n t p q = by_size (nat_le w 10000000000) refl where
        by_size : (b : Bool) → nat_le w 10000000000 ≡ b → limited (signed negative n) ≡ limited (signed negative t)
        by_size true le = let small = leb-true _ _ le in let same : n ≡ t = omega (arith, small, p, q) in ap (λ (k : ℕ). limited (signed negative k)) same
        by_size false gt =
            let large = leb-false _ _ gt in
            let one : nat_le n VALUE_LIMIT ≡ false = lt-leb _ _ (omega (arith, large, p)) in
            let two : nat_le t VALUE_LIMIT ≡ false = lt-leb _ _ (omega (arith, large, q)) in
            rw (limited-signed negative n, limited-signed negative t, one, two) refl

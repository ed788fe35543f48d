-- A number's digits, rounded to 10^-12.
use Rattle.std.proofs.Common.{◌≡◌, ℕ, zero, suc, ◌+◌, ◌-◌, ◌*◌, ◌/◌, ◌%◌, ◌^◌, ◌<◌, ◌≤◌, min, ap, Bool, true, false, List, [], ◌∷◌, ◌++◌, length, take, drop}
use Rattle.std.proofs.Common.{Some, None, Option, refl, sym, ◌∙◌, arith}
use Rattle.std.specs.Prelude.{nat_le, if◌then◌else◌}
use Rattle.std.proofs.lemmas.List.{take-append-drop, length-take, length-drop}
use Rattle.std.proofs.lemmas.Nat.{div-mul-add, pow-add}
use Rattle.std.proofs.lemmas.Bool.{leb-true, leb-false, lt-leb}
use Rattle.ngc_fixed_length.specs.Rounding.{nearest_size}
use Rattle.ngc_line_reader.specs.Grammar.{IsDigits}
use Rattle.ngc_line_reader.specs.Numbers.{digits_value}
use Rattle.ngc_line_reader.specs.Scan.{digits_at}
use Rattle.ngc_line_reader.proofs.Digits.{digits_at-all}
use Rattle.ngc_line_reader.proofs.Rounded.{digits_value-append, digits_value-below}
use Rattle.ngc_dialect_reader.specs.Number.{ONE, LIMIT, size_of, limited}

positive : (k : ℕ) → 0 < 10 ^ k
positive zero = omega arith
positive (suc k) = let p : 10 ^ suc k ≡ 10 * 10 ^ k = grind arith in omega (arith, positive k, p)

-- rounding keeps whole units
nearest-whole : (w p v : ℕ) → 0 < p → nearest_size ((w * p + v) * ONE) p ≡ w * ONE + nearest_size (v * ONE) p
nearest-whole w p v h =
    let x = 2 * (v * ONE) + p in
    let q = x / (2 * p) in
    let m = x % (2 * p) in
    let parts : 2 * p * q + m ≡ x = omega arith in
    let below : m < 2 * p = omega arith in
    let e : 2 * ((w * p + v) * ONE) + p ≡ (w * ONE + q) * (2 * p) + m = omega (arith, parts) in
    ap (λ (n : ℕ). n / (2 * p)) e ∙ div-mul-add (w * ONE + q) (2 * p) m below

-- of many decimals the thirteenth decides the rounding
nearest-last : (a b p : ℕ) → b < p → nearest_size ((a * p + b) * ONE) (10000000000000 * p) ≡ (a + 5) / 10
nearest-last a b p h =
    let q = (a + 5) / 10 in
    let r = (a + 5) % 10 in
    let parts : 10 * q + r ≡ a + 5 = omega arith in
    let low : r ≤ 9 = omega arith in
    let product : (10 * q + r) * p ≡ (a + 5) * p = ap (λ (n : ℕ). n * p) parts in
    let small : r * p ≤ 9 * p = times p r 9 low in
    let e : 2 * ((a * p + b) * ONE) + 10000000000000 * p ≡ q * (2 * (10000000000000 * p)) + 2000000000000 * (r * p + b) = omega (arith, product) in
    let below : 2000000000000 * (r * p + b) < 2 * (10000000000000 * p) = omega (arith, small, h) in
    ap (λ (n : ℕ). n / (2 * (10000000000000 * p))) e ∙ div-mul-add q (2 * (10000000000000 * p)) (2000000000000 * (r * p + b)) below where
      times : (p r k : ℕ) → r ≤ k → r * p ≤ k * p
      times p r k h = grind arith

-- up to twelve decimals are exact
pub nearest-short : (n k : ℕ) → k ≤ 12 → nearest_size (n * ONE) (10 ^ k) ≡ n * 10 ^ (12 - k)
nearest-short n zero h = omega arith
nearest-short n (suc zero) h = omega arith
nearest-short n (suc (suc zero)) h = omega arith
nearest-short n (suc (suc (suc zero))) h = omega arith
nearest-short n (suc (suc (suc (suc zero)))) h = omega arith
nearest-short n (suc (suc (suc (suc (suc zero))))) h = omega arith
nearest-short n (suc (suc (suc (suc (suc (suc zero)))))) h = omega arith
nearest-short n (suc (suc (suc (suc (suc (suc (suc zero))))))) h = omega arith
nearest-short n (suc (suc (suc (suc (suc (suc (suc (suc zero)))))))) h = omega arith
nearest-short n (suc (suc (suc (suc (suc (suc (suc (suc (suc zero))))))))) h = omega arith
nearest-short n (suc (suc (suc (suc (suc (suc (suc (suc (suc (suc zero)))))))))) h = omega arith
nearest-short n (suc (suc (suc (suc (suc (suc (suc (suc (suc (suc (suc zero))))))))))) h = omega arith
nearest-short n (suc (suc (suc (suc (suc (suc (suc (suc (suc (suc (suc (suc zero)))))))))))) h = omega arith
nearest-short n (suc (suc (suc (suc (suc (suc (suc (suc (suc (suc (suc (suc (suc k))))))))))))) h = absurd (omega arith)

short-below : (n k : ℕ) → k ≤ 12 → n < 10 ^ k → (n * 10 ^ (12 - k) ≤ 1000000000000) × (n < 100000000000000)
short-below n zero h b = (omega arith, omega arith)
short-below n (suc zero) h b = (omega arith, omega arith)
short-below n (suc (suc zero)) h b = (omega arith, omega arith)
short-below n (suc (suc (suc zero))) h b = (omega arith, omega arith)
short-below n (suc (suc (suc (suc zero)))) h b = (omega arith, omega arith)
short-below n (suc (suc (suc (suc (suc zero))))) h b = (omega arith, omega arith)
short-below n (suc (suc (suc (suc (suc (suc zero)))))) h b = (omega arith, omega arith)
short-below n (suc (suc (suc (suc (suc (suc (suc zero))))))) h b = (omega arith, omega arith)
short-below n (suc (suc (suc (suc (suc (suc (suc (suc zero)))))))) h b = (omega arith, omega arith)
short-below n (suc (suc (suc (suc (suc (suc (suc (suc (suc zero))))))))) h b = (omega arith, omega arith)
short-below n (suc (suc (suc (suc (suc (suc (suc (suc (suc (suc zero)))))))))) h b = (omega arith, omega arith)
short-below n (suc (suc (suc (suc (suc (suc (suc (suc (suc (suc (suc zero))))))))))) h b = (omega arith, omega arith)
short-below n (suc (suc (suc (suc (suc (suc (suc (suc (suc (suc (suc (suc zero)))))))))))) h b = (omega arith, omega arith)
short-below n (suc (suc (suc (suc (suc (suc (suc (suc (suc (suc (suc (suc (suc k))))))))))))) h b = absurd (omega arith)

pub record IsFraction (ds : List ℕ) (m : ℕ) : Type 0 where
  pub value : m ≡ nearest_size (digits_value ds * ONE) (10 ^ length ds)
  pub bound : m ≤ 1000000000000

pub short_fraction : (ds : List ℕ) (u : ℕ) → IsDigits ds → length ds ≤ 12 → u ≡ min (digits_value ds) 100000000000000 → IsFraction ds (u * 10 ^ (12 - length ds))
short_fraction ds u h le e =
    let b = short-below (digits_value ds) (length ds) le (digits_value-below ds h) in
    let same : u ≡ digits_value ds = omega (arith, e, b.1) in
    let times : u * 10 ^ (12 - length ds) ≡ digits_value ds * 10 ^ (12 - length ds) = ap (λ (n : ℕ). n * 10 ^ (12 - length ds)) same in
    record { value = times ∙ sym (nearest-short (digits_value ds) (length ds) le); bound = omega (arith, times, b.0) }

IsDigits-parts : (xs ys : List ℕ) → IsDigits (xs ++ ys) → IsDigits xs × IsDigits ys
IsDigits-parts [] ys h = (tt, h)
IsDigits-parts (x ∷ xs) ys h = let rest = IsDigits-parts xs ys h.1 in ((h.0, rest.0), rest.1)

thirteen : (j : ℕ) → 10 ^ (13 + j) ≡ 10000000000000 * 10 ^ j
thirteen j = pow-add 10 13 j

-- the first thirteen of many decimals, counted
pub long_fraction : (ds : List ℕ) (u : ℕ) → IsDigits ds → 12 < length ds → u ≡ min (digits_value (digits_at (take 13 ds))) 100000000000000 → IsFraction ds ((u + 5) / 10)
long_fraction ds u h lt counted =
    let whole : take 13 ds ++ drop 13 ds ≡ ds = take-append-drop 13 ds in
    let digits : IsDigits (take 13 ds) × IsDigits (drop 13 ds) = IsDigits-parts (take 13 ds) (drop 13 ds) (rw whole h) in
    let e : u ≡ min (digits_value (take 13 ds)) 100000000000000 = counted ∙ ap (λ (t : List ℕ). min (digits_value t) 100000000000000) (digits_at-all (take 13 ds) digits.0) in
    let front : length (take 13 ds) ≡ 13 = omega (arith, length-take 13 ds) in
    let below : digits_value (take 13 ds) < 10000000000000 = let b = digits_value-below (take 13 ds) digits.0 in let c = ap (λ (n : ℕ). 10 ^ n) front in
    omega (arith, b, c) in
    let same : u ≡ digits_value (take 13 ds) = omega (arith, e, below) in
    let rest = digits_value-below (drop 13 ds) digits.1 in
    let value : digits_value ds ≡ digits_value (take 13 ds) * 10 ^ length (drop 13 ds) + digits_value (drop 13 ds) =
    ap digits_value (sym whole) ∙ digits_value-append (take 13 ds) (drop 13 ds) in
    let size : length ds ≡ 13 + length (drop 13 ds) = omega (arith, length-drop 13 ds) in
    let unit : 10 ^ length ds ≡ 10000000000000 * 10 ^ length (drop 13 ds) = ap (λ (n : ℕ). 10 ^ n) size ∙ thirteen (length (drop 13 ds)) in
    record {
      value = ap (λ (n : ℕ). (n + 5) / 10) same
          ∙ sym (ap (λ (n : ℕ). nearest_size (n * ONE) (10 ^ length ds)) value
          ∙ ap (λ (n : ℕ). nearest_size ((digits_value (take 13 ds) * 10 ^ length (drop 13 ds) + digits_value (drop 13 ds)) * ONE) n) unit
          ∙ nearest-last (digits_value (take 13 ds)) (digits_value (drop 13 ds)) (10 ^ length (drop 13 ds)) rest);
      bound = omega (arith, same, below);
    }

-- bounded units and a fraction give the size, or both are too large
pub sized : (ws ds : List ℕ) (u m n : ℕ) → u ≡ min (digits_value ws) 100000000000000 → IsFraction ds m → n ≡ u * ONE + m
    → limited n ≡ limited (size_of ws ds)
sized ws ds u m n e f g =
    let total : size_of ws ds ≡ digits_value ws * ONE + nearest_size (digits_value ds * ONE) (10 ^ length ds) =
    ap (λ (k : ℕ). nearest_size (k * ONE) (10 ^ length ds)) (digits_value-append ws ds)
    ∙ nearest-whole (digits_value ws) (10 ^ length ds) (digits_value ds) (positive (length ds)) in
    compared (digits_value ws) m n _ (omega (arith, e, g)) (total ∙ ap (λ (k : ℕ). digits_value ws * ONE + k) (sym f.value)) where
      compared : (w m n t : ℕ) → n ≡ min w 100000000000000 * ONE + m → t ≡ w * ONE + m → limited n ≡ limited t
      compared w m n t p q = by_size (nat_le w 100000000000000) refl where
        by_size : (b : Bool) → nat_le w 100000000000000 ≡ b → limited n ≡ limited t
        by_size true le = let small = leb-true _ _ le in let same : n ≡ t = omega (arith, small, p, q) in ap (λ (k : ℕ). limited k) same
        by_size false gt =
            let large = leb-false _ _ gt in
            let one : nat_le n LIMIT ≡ false = lt-leb _ _ (omega (arith, large, p)) in
            let two : nat_le t LIMIT ≡ false = lt-leb _ _ (omega (arith, large, q)) in
            rw (one, two) refl

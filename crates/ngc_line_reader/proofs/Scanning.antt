-- One step of the readers, if the bound allows it.
use Rattle.std.proofs.Common.{◌≡◌, ℕ, zero, suc, ◌+◌, ◌-◌, ◌<◌, ◌≤◌, ap, Bool, true, false, cond, Some, None, List, [], ◌∷◌, ◌++◌, length, ℤ, drop, Result, Ok}
use Rattle.std.proofs.Common.{Err, refl, sym, arith}
use Rattle.std.specs.Prelude.{if◌then◌else◌, ◌==◌, ◌&&◌}
use Rattle.std.specs.Char.{is_ascii_digit}
use Rattle.std.specs.List.{prefix_len}
use Rattle.std.proofs.lemmas.List.{length-take, length-drop}
use Rattle.std.proofs.lemmas.Bool.Decides.{nat_tests}
use Rattle.ngc_fixed_length.specs.Limits.{limited}
use Rattle.ngc_line_reader.specs.declared.fault.FaultKind.TheVariants.{BadNumber}
use Rattle.ngc_line_reader.specs.Grammar.{digits_of}
use Rattle.ngc_line_reader.specs.Numbers.{written_value}
use Rattle.ngc_line_reader.specs.declared.token.Token.{Token}
use Rattle.ngc_line_reader.specs.declared.token.Symbol.TheVariants as mark
use Rattle.ngc_line_reader.specs.Tokens.{token_at}
use Rattle.ngc_line_reader.specs.declared.fault.ItemRefusal.{ItemRefusal}
use Rattle.ngc_line_reader.specs.declared.fault.ItemRefusal.TheVariants.{OfItem}
use Rattle.ngc_line_reader.specs.Scan.{◌>>=◌, begins, refusal, after_sign, digits_at, after_digits, decimals_at, after_decimals, whole_at, fraction_at}
use Rattle.ngc_line_reader.specs.Scan.{after_number, value_fits, number_at, number_token, operator_at, real_at, rest_at}

pub real_step : (place : ℕ → ℕ) (room : ℕ) (found : List Token) (s : List ℕ) → 0 < room → real_at place room found s ≡
    (if begins 35 s then real_at place (room - 1) (found ++ (token_at place mark.Parameter s ∷ [])) (drop 1 s) else (
    if begins 91 s then (real_at place (room - 1) (found ++ (token_at place mark.Open s ∷ [])) (drop 1 s) >>= λ x. rest_at place (room - 1) x.0 x.1) else
    number_token place found s))
unfolding real_at
real_step place zero found s h = absurd (omega arith)
real_step place (suc room) found s h = let e : suc room - 1 ≡ room = omega arith in rw e refl

pub rest_step : (place : ℕ → ℕ) (room : ℕ) (found : List Token) (s : List ℕ) → 0 < room → rest_at place room found s ≡
    (if begins 93 s then Ok (found ++ (token_at place mark.Close s ∷ []), drop 1 s) else (
    operator_at s >>= λ o. real_at place (room - 1) (found ++ (token_at place (mark.Operator o) s ∷ [])) (drop 1 s) >>= λ x. rest_at place (room - 1) x.0 x.1))
unfolding rest_at
rest_step place zero found s h = absurd (omega arith)
rest_step place (suc room) found s h = let e : suc room - 1 ≡ room = omega arith in rw e refl

after_sign_le : (s : List ℕ) → length (after_sign s) ≤ length s
after_sign_le [] = omega arith
after_sign_le (b ∷ s) = by_tests (b == 43) (b == 45) where
  by_tests : (x y : Bool) → length (cond x s (cond y s (b ∷ s))) ≤ length (b ∷ s)
  by_tests true y = omega arith
  by_tests false true = omega arith
  by_tests false false = omega arith

digits_split : (s : List ℕ) → length (digits_at s) + length (after_digits s) ≤ length s
digits_split s = omega (arith, length-take (prefix_len is_ascii_digit s) s, length-drop (prefix_len is_ascii_digit s) s)

decimals_split : (s : List ℕ) → length (digits_of (decimals_at s)) + length (after_decimals s) ≤ length s
decimals_split [] = omega arith
decimals_split (b ∷ s) = by_test (b == 46) where
  by_test : (x : Bool) → length (digits_of (cond x (Some (digits_at s)) None)) + length (cond x (after_digits s) (b ∷ s)) ≤ length (b ∷ s)
  by_test true = omega (arith, digits_split s)
  by_test false = omega arith

number_split : (s : List ℕ) → length (whole_at s) + (length (fraction_at s) + length (after_number s)) ≤ length s
number_split s = omega (arith, after_sign_le s, digits_split (after_sign s), decimals_split (after_digits (after_sign s)))

-- a number has a digit
pub nonempty : (m n : ℕ) → (m == 0) && (n == 0) ≡ false → 0 < m + n
nonempty m n h = grind (arith, nat_tests)

abbrev read : ℤ → List ℕ → Result (ℤ × List ℕ) ItemRefusal
read z r = Ok (z, r)

abbrev made : ℤ → List ℕ → ℤ × List ℕ
made z r = (z, r)

abbrev done : ℤ × List ℕ → Result (ℤ × List ℕ) ItemRefusal
done p = Ok p

inner : (p q : ℤ × List ℕ) → done p ≡ done q → p ≡ q
inner p q e = cc

behind_of : (y z : ℤ) (q r : List ℕ) → read y q ≡ read z r → q ≡ r
behind_of y z q r e = let pair : made y q ≡ made z r = inner (made y q) (made z r) e in ap (λ (p : ℤ × List ℕ). p.1) pair

-- the number that was read, by the tests that passed
pub number_was : (s : List ℕ) (z : ℤ) (r : List ℕ) → number_at s ≡ Ok (z, r) → (0 < length (whole_at s) + length (fraction_at s)) × (r ≡ after_number s)
unfolding number_at
number_was s z r e = by_tests ((length (whole_at s) == 0) && (length (fraction_at s) == 0)) (begins 46 (after_number s))
    (value_fits (limited (written_value (begins 45 s) (whole_at s) (fraction_at s)))) (nonempty (length (whole_at s)) (length (fraction_at s))) e where
      by_tests : (a b : Bool) (v : Result ℤ ItemRefusal) → (a ≡ false → 0 < length (whole_at s) + length (fraction_at s))
          → cond a (Err (refusal BadNumber (after_number s))) (cond b (Err (OfItem BadNumber)) (v >>= λ z. Ok (z, after_number s))) ≡ read z r
          → (0 < length (whole_at s) + length (fraction_at s)) × (r ≡ after_number s)
      by_tests true b v some e = absurd cc
      by_tests false true v some e = absurd cc
      by_tests false false (Err f) some e = absurd cc
      by_tests false false (Ok y) some e = (some refl, sym (behind_of y z (after_number s) r e))

pub number_shorter : (s : List ℕ) (z : ℤ) (r : List ℕ) → number_at s ≡ Ok (z, r) → length r < length s
number_shorter s z r e = let w = number_was s z r e in omega (arith, w.0, ap length w.1, number_split s)

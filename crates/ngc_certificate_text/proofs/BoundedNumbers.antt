-- Numbers that are read up to a bound, and the end of a field.
use Rattle.std.proofs.Common.{◌≡◌, ℕ, zero, suc, ◌+◌, ◌<◌, ◌≤◌, min, ap, Bool, true, false, Option, Some, None, List, [], ◌∷◌, length, take, drop, get_or, refl}
use Rattle.std.proofs.Common.{sym, ◌∙◌, arith}
use Rattle.std.specs.Prelude.{◌==◌, pos, negsuc, position, nat_lt, if◌then◌else◌}
use Rattle.std.specs.List.{position_or_len}
use Rattle.std.specs.Option.{option_map}
use Rattle.std.proofs.lemmas.Bool.{ltb-false}
use Rattle.std.proofs.lemmas.List.Quantifiers.{position-Some}
use Rattle.ngc_text.specs.Decimals.{decimal_in, limited}
use Rattle.ngc_text.proofs.SplitTexts.{lacks, split_last}
use Rattle.ngc_certificate_text.specs.Number.{fields, negated, number_in}
use Rattle.ngc_certificate_text.specs.Clamped.{clamped, minus_tail}

negated_clamped : (o : Option ℕ) → negated (option_map limited o) ≡ option_map clamped (negated o)
negated_clamped None = refl
negated_clamped (Some zero) = refl
negated_clamped (Some (suc n)) = by_size (min (suc n) 10000000000) (min n 9999999999) (omega arith) where
  by_size : (m k : ℕ) → m ≡ suc k → negated (Some m) ≡ Some (negsuc k)
  by_size m k e = ap (λ (x : ℕ). negated (Some x)) e

positive_clamped : (o : Option ℕ) → option_map pos (option_map limited o) ≡ option_map clamped (option_map pos o)
positive_clamped None = refl
positive_clamped (Some n) = refl

if_minus : {A : Type 0} (c : Bool) (x y : A) → c ≡ true → (if c then x else y) ≡ x
if_minus c x y e = rw e refl

if_digit : {A : Type 0} (c : Bool) (x y : A) → c ≡ false → (if c then x else y) ≡ y
if_digit c x y e = rw e refl

tail_some : (c : Bool) (rest digits : List ℕ) → (if c then Some rest else None) ≡ Some digits → (c ≡ true) × (rest ≡ digits)
tail_some true rest digits h = (refl, cc h)
tail_some false rest digits h = absurd (cc h)

tail_none : (c : Bool) (rest : List ℕ) → (if c then Some rest else None) ≡ None → c ≡ false
tail_none true rest h = absurd (cc h)
tail_none false rest h = refl

pub minus_number : (field digits : List ℕ) → minus_tail field ≡ Some digits →
    negated (option_map limited (decimal_in digits)) ≡ option_map clamped (number_in field)
unfolding number_in
minus_number [] digits h = absurd (cc h)
minus_number (b ∷ rest) digits h =
    let t = tail_some (b == 45) rest digits h in
    ap (λ (d : List ℕ). negated (option_map limited (decimal_in d))) (sym t.1) ∙ negated_clamped (decimal_in rest)
    ∙ ap (option_map clamped) (sym (if_minus (b == 45) (negated (decimal_in rest)) (option_map pos (decimal_in (b ∷ rest))) t.0))

pub plain_number : (field : List ℕ) → minus_tail field ≡ None → option_map pos (option_map limited (decimal_in field)) ≡ option_map clamped (number_in field)
unfolding number_in
plain_number [] h = refl
plain_number (b ∷ rest) h =
    positive_clamped (decimal_in (b ∷ rest))
    ∙ ap (option_map clamped) (sym (if_digit (b == 45) (negated (decimal_in rest)) (option_map pos (decimal_in (b ∷ rest))) (tail_none (b == 45) rest h)))

-- ---- fields

space_at : (text : List ℕ) (k : ℕ) → k < length text → (get_or text k 0 == 32) ≡ true → ((j : ℕ) → j < k → (get_or text j 0 == 32) ≡ false)
    → fields text ≡ take k text ∷ fields (drop 1 (drop k text))
space_at [] k h e before = absurd (omega (arith, h))
space_at (b ∷ rest) zero h e before = rw e refl
space_at (b ∷ rest) (suc k) h e before = rw (before 0 (omega arith), space_at rest k (omega arith) e (λ j l. before (suc j) (omega arith))) refl

pub space_found : (text : List ℕ) (k : ℕ) → position (λ b. b == 32) text ≡ Some k → fields text ≡ take k text ∷ fields (drop 1 (drop k text))
space_found text k h = let p = position-Some (λ b. b == 32) text k 0 h in space_at text k p.0 p.1 p.2

by_first : (b : ℕ) (rest : List ℕ) (c : Bool) → (b == 32) ≡ c → (length rest ≤ position_or_len (λ b. b == 32) rest → lacks 32 rest ≡ true)
    → length (b ∷ rest) ≤ position_or_len (λ b. b == 32) (b ∷ rest) → lacks 32 (b ∷ rest) ≡ true
by_first b rest true e more h = absurd (let k : suc (length rest) ≤ 0 = rw e at h in omega (arith, k))
by_first b rest false e more h =
    let k : suc (length rest) ≤ 1 + position_or_len (λ b. b == 32) rest = rw e at h in
    rw (e, more (omega (arith, k))) refl

no_position : (text : List ℕ) → length text ≤ position_or_len (λ b. b == 32) text → lacks 32 text ≡ true
no_position [] h = refl
no_position (b ∷ rest) h = by_first b rest (b == 32) refl (no_position rest) h

not_before : (c : Bool) (k : ℕ) → (if c then Some k else None) ≡ None → c ≡ false
not_before true k h = absurd (cc h)
not_before false k h = refl

not_space : (text : List ℕ) → position (λ b. b == 32) text ≡ None → lacks 32 text ≡ true
not_space text h =
    let e = not_before (nat_lt (position_or_len (λ b. b == 32) text) (length text)) (position_or_len (λ b. b == 32) text) h in
    no_position text (ltb-false (position_or_len (λ b. b == 32) text) (length text) e)

pub no_space : (text : List ℕ) → position (λ b. b == 32) text ≡ None → fields text ≡ text ∷ []
no_space text h = split_last 32 text (not_space text h)

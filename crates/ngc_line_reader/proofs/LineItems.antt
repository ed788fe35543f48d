-- One item of a line, if the bound allows it.
use Rattle.std.proofs.Common.{◌≡◌, ◌≢◌, ℕ, zero, suc, ◌-◌, ◌<◌, ℤ, Bool, true, false, List, [], ◌∷◌, ◌++◌, length, drop, Some, Ok, refl, ◌∙◌, arith}
use Rattle.std.proofs.Common.{slice_index}
use Rattle.std.specs.Prelude.{if◌then◌else◌, ◌==◌}
use Rattle.std.proofs.lemmas.Bool.Decides.{nat_tests}
use Rattle.ngc_line_reader.specs.declared.letter.Letter.{Letter}
use Rattle.ngc_line_reader.specs.declared.token.Token.{Token}
use Rattle.ngc_line_reader.specs.declared.token.Symbol.TheVariants as mark
use Rattle.ngc_line_reader.specs.Letter.{letter_of}
use Rattle.ngc_line_reader.specs.Tokens.{token_at}
use Rattle.ngc_line_reader.specs.Scan.{◌>>=◌, begins, number_at, real_at}
use Rattle.ngc_line_reader.specs.ScanLine.{Parts, with_word, word_at, item_at, located, items_at}
use Rattle.ngc_line_reader.proofs.Scanning.{real_step, number_was}

pub items_step : (place : ℕ → ℕ) (room : ℕ) (found : Parts) (s : List ℕ) → 0 < room → items_at place room found s ≡
    (if length s == 0 then Ok found else (
    if begins 59 s then Ok found else (
    located place s (item_at place (room - 1) found s) >>= λ x. items_at place (room - 1) x.0 x.1)))
unfolding items_at
items_step place zero found s h = absurd (omega arith)
items_step place (suc room) found s h = let e : suc room - 1 ≡ room = omega arith in rw e refl

-- a parameter or a bracket does not begin a number
no_parameter : (t : List ℕ) (z : ℤ) (r : List ℕ) → number_at (35 ∷ t) ≡ Ok (z, r) → ⊥
no_parameter t z r e = let w = number_was (35 ∷ t) z r e in omega (arith, w.0)

no_bracket : (t : List ℕ) (z : ℤ) (r : List ℕ) → number_at (91 ∷ t) ≡ Ok (z, r) → ⊥
no_bracket t z r e = let w = number_was (91 ∷ t) z r e in omega (arith, w.0)

number_first : (s : List ℕ) (z : ℤ) (r : List ℕ) → number_at s ≡ Ok (z, r) → (begins 35 s ≡ false) × (begins 91 s ≡ false)
number_first [] z r e = (refl, refl)
number_first (b ∷ t) z r e = (first (b == 35) refl, second (b == 91) refl) where
  first : (x : Bool) → (b == 35) ≡ x → x ≡ false
  first false p = refl
  first true p = let same : b ≡ 35 = grind (arith, nat_tests) in absurd (no_parameter t z r (rw same at e))

  second : (x : Bool) → (b == 91) ≡ x → x ≡ false
  second false p = refl
  second true p = let same : b ≡ 91 = grind (arith, nat_tests) in absurd (no_bracket t z r (rw same at e))

number_is_real : (place : ℕ → ℕ) (room : ℕ) (found : List Token) (s : List ℕ) (z : ℤ) (r : List ℕ) → 0 < room → number_at s ≡ Ok (z, r)
    → real_at place room found s ≡ Ok (found ++ (token_at place (mark.Number z) s ∷ []), r)
number_is_real place room found s z r h e =
    let first = number_first s z r e in
    let parameter : begins 35 s ≡ false = first.0 in
    let bracket : begins 91 s ≡ false = first.1 in
    real_step place room found s h ∙ rw (parameter, bracket, e) refl

pub short_word : (place : ℕ → ℕ) (room : ℕ) (found : Parts) (s : List ℕ) (letter : Letter) (z : ℤ) (r : List ℕ) → 0 < room
    → letter_of (slice_index s 0) ≡ Some letter → length found.words ≢ 64 → number_at (drop 1 s) ≡ Ok (z, r)
    → item_at place room found s ≡ Ok (with_word place found letter s (found.tokens ++ (token_at place (mark.Number z) (drop 1 s) ∷ [])), r)
unfolding item_at word_at
short_word place room found s letter z r h l few e =
    let other : (length found.words == 64) ≡ false = grind (arith, nat_tests) in
    let real = number_is_real place room found.tokens (drop 1 s) z r h e in
    rw (l, other, real) refl

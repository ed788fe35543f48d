-- The lines of a text, in order.
use Rattle.std.proofs.Common.{◌≡◌, ℕ, zero, suc, ◌+◌, ◌<◌, ◌≤◌, List, [], ◌∷◌, length, take, drop, refl, ap, arith, length-drop}
use Rattle.std.proofs.lemmas.Bool.Decides.{nat_tests}
use Rattle.ngc_grbl_lines.specs.Lines.{line_length, lines_within, lines_of}

-- a line has a byte
some_bytes : (b : ℕ) (rest : List ℕ) → 0 < line_length (b ∷ rest)
some_bytes b rest = grind (arith, nat_tests)

-- any limit of lines that is large enough has the same result
enough : (n m : ℕ) (text : List ℕ) → length text ≤ n → length text ≤ m → lines_within n text ≡ lines_within m text
enough zero zero text p q = refl
enough zero (suc m) [] p q = refl
enough zero (suc m) (b ∷ rest) p q = absurd (omega arith)
enough (suc n) zero [] p q = refl
enough (suc n) zero (b ∷ rest) p q = absurd (omega arith)
enough (suc n) (suc m) [] p q = refl
enough (suc n) (suc m) (b ∷ rest) p q =
    let text = b ∷ rest in
    let some = some_bytes b rest in
    let left = length-drop (line_length text) text in
    ap (λ (xs : List (List ℕ)). take (line_length text) text ∷ xs)
    (enough n m (drop (line_length text) text) (omega arith) (omega arith))

-- the first line, and those after it
pub lines_step : (text : List ℕ) → 0 < length text
    → lines_of text ≡ take (line_length text) text ∷ lines_of (drop (line_length text) text)
unfolding lines_of
lines_step [] h = absurd (omega arith)
lines_step (b ∷ rest) h =
    let text = b ∷ rest in
    let some = some_bytes b rest in
    let left = length-drop (line_length text) text in
    ap (λ (xs : List (List ℕ)). take (line_length text) text ∷ xs)
    (enough (length rest) (length (drop (line_length text) text)) (drop (line_length text) text) (omega arith) (omega arith))

-- a text without bytes has none
pub no_lines : (text : List ℕ) → length text ≡ 0 → lines_of text ≡ []
unfolding lines_of
no_lines [] h = refl
no_lines (b ∷ rest) h = absurd (omega arith)

-- Texts that a byte separates.
use Rattle.std.proofs.Common.{◌≡◌, ℕ, ap, Bool, true, false, List, [], ◌∷◌, ◌++◌, refl, ◌∙◌, arith}
use Rattle.std.specs.Prelude.{◌==◌, not}
use Rattle.std.specs.List.{list_all, slice_split, join_with_byte}
use Rattle.std.proofs.lemmas.Bool.{and_parts}
use Rattle.std.proofs.lemmas.Bool.Decides.{nat_tests}

-- a byte is not in a text
abbrev pub lacks : ℕ → List ℕ → Bool
lacks s bytes = list_all (λ b. not (b == s)) bytes

other_byte : (b s : ℕ) → not (b == s) ≡ true → (b == s) ≡ false
other_byte b s h = grind (arith, nat_tests)

-- the byte ends the first part
pub split_here : (s : ℕ) (xs rest : List ℕ) → lacks s xs ≡ true → slice_split (λ b. b == s) (xs ++ (s ∷ rest)) ≡ xs ∷ slice_split (λ b. b == s) rest
split_here s [] rest h = rw (same s) refl where
  same : (s : ℕ) → (s == s) ≡ true
  same s = grind (arith, nat_tests)
split_here s (x ∷ xs) rest h =
    let parts = and_parts (not (x == s)) (lacks s xs) h in
    rw (other_byte x s parts.0, split_here s xs rest parts.1) refl

pub split_last : (s : ℕ) (xs : List ℕ) → lacks s xs ≡ true → slice_split (λ b. b == s) xs ≡ xs ∷ []
split_last s [] h = refl
split_last s (x ∷ xs) h =
    let parts = and_parts (not (x == s)) (lacks s xs) h in
    rw (other_byte x s parts.0, split_last s xs parts.1) refl

-- joined parts split into the same parts
pub split_joined : (s : ℕ) (x : List ℕ) (xs : List (List ℕ)) → list_all (lacks s) (x ∷ xs) ≡ true →
    slice_split (λ b. b == s) (join_with_byte s (x ∷ xs)) ≡ x ∷ xs
split_joined s x [] h = split_last s x (and_parts (lacks s x) true h).0
split_joined s x (y ∷ ys) h =
    let parts = and_parts (lacks s x) (list_all (lacks s) (y ∷ ys)) h in
    split_here s x (join_with_byte s (y ∷ ys)) parts.0 ∙ ap (λ (l : List (List ℕ)). x ∷ l) (split_joined s y ys parts.1)

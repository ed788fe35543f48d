-- The first elements of a list, if there may be fewer.
use Rattle.std.proofs.Common.{◌≡◌, ℕ, ◌≤◌, ◌⊎◌, inl, inr, List, length, take, min, ap, sym, ◌∙◌, arith}
use Rattle.std.proofs.lemmas.List.{take_all}

pub enough : (n m : ℕ) → (n ≤ m) ⊎ (m ≤ n)
enough n m = grind (arith)

-- the lesser of a length and n takes the same elements as n
pub taken : {X : Type 0} (n k : ℕ) (xs : List X) → k ≡ min (length xs) n → take k xs ≡ take n xs
taken n k xs is = elim (enough n (length xs)) [
  | inl h ↦ ap (λ i. take i xs) (omega arith)
  | inr h ↦ take_all k xs (omega arith) ∙ sym (take_all n xs h)
]

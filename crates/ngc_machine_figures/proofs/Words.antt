-- The text of an unknown key.
use Rattle.std.proofs.Common.{◌≡◌, ◌≤◌, ◌-◌, ◌∙◌, ◌⊎◌, ℕ, List, ◌++◌, length, take, drop, min, ap, sym, arith, inl, inr}
use Rattle.std.specs.Prelude.{replicate}
use Rattle.std.proofs.lemmas.List.{drop-replicate, take_all}
use Rattle.ngc_machine_figures.specs.Words.{padded}

-- a text that is copied into zeros
pub padded_text : (text : List ℕ) → record { bytes = text ++ drop (length text) (replicate 40 0); count = length text } ≡ padded text
padded_text text = ap (λ zeros. record { bytes = text ++ zeros; count = length text }) (drop-replicate (length text) 40 0)

enough : (n m : ℕ) → (n ≤ m) ⊎ (m ≤ n)
enough n m = grind (arith)

-- the lesser of a length and n takes the same elements as n
pub taken : {X : Type 0} (n k : ℕ) (xs : List X) → k ≡ min (length xs) n → take k xs ≡ take n xs
taken n k xs is = elim (enough n (length xs)) [
  | inl h ↦ ap (λ i. take i xs) (omega arith)
  | inr h ↦ take_all k xs (omega arith) ∙ sym (take_all n xs h)
]

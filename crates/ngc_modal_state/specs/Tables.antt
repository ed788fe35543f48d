-- Look-up by number. Our own.
use Rattle.std.specs.Prelude.{ℕ, ◌==◌, List, [], ◌∷◌, Option, Some, None, Bool, false, ◌||◌}
use Rattle.std.specs.Prelude.{if◌then◌else◌}

-- the entry at a number
abbrev pub at_number : {A : Type 0} → ℕ → List (ℕ × A) → Option A
at_number n [] = None
at_number n ((k, x) ∷ rest) = if n == k then Some x else at_number n rest

abbrev pub has_number : ℕ → List ℕ → Bool
has_number n [] = false
has_number n (k ∷ rest) = (n == k) || has_number n rest

-- the second entry of the first row whose test holds
abbrev pub first_where : {A : Type 0} → List (Bool × A) → Option A
first_where [] = None
first_where ((holds, answer) ∷ rest) = if holds then Some answer else first_where rest

-- Numbers and lists of them. Our own.
use Rattle.std.specs.Prelude.{ℕ, ℤ, int_le, ◌==◌, List, [], ◌∷◌, Bool, true, false, not, ◌&&◌, ◌||◌}
use Rattle.std.specs.Prelude.{IsTrue}

-- the greatest length and radius of a part of a tool, in nanometres
abbrev pub PART_LIMIT : ℕ
PART_LIMIT = 1000000000

abbrev pub from_to : ℤ → ℤ → ℤ → Bool
from_to low high z = int_le low z && int_le z high

abbrev pub has_number : ℕ → List ℕ → Bool
has_number n [] = false
has_number n (k ∷ rest) = (n == k) || has_number n rest

abbrev pub all_different : List ℕ → Bool
all_different [] = true
all_different (n ∷ ns) = not (has_number n ns) && all_different ns

-- no number occurs twice
abbrev pub AreDifferent : List ℕ → Type 0
AreDifferent ns = IsTrue (all_different ns)

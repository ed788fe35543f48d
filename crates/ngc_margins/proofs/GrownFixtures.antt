-- Fixtures that are made larger one at a time.
use Rattle.std.proofs.Common.{◌≡◌, ℕ, ◌+◌, ◌<◌, List, length, drop, set, get_or, subst, sym, arith}
use Rattle.std.specs.List.{All}
use Rattle.std.proofs.lemmas.List.{drop_more, drop-set-lt}
use Rattle.std.proofs.lemmas.List.Elements.{All-head, All-tail}

-- a property of the elements from an index on holds of the element there
pub at_index : {X : Type 0} (P : X → Type 0) (xs : List X) (i : ℕ) (x : X) → i < length xs → All P (drop i xs) → x ≡ get_or xs i x → P x
at_index P xs i x within all is =
    subst P (sym is) (All-head P (get_or xs i x) (drop (i + 1) xs) (subst (All P) (drop_more xs i x within) all))

-- and of those after it, where that element is written
pub after_index : {X : Type 0} (P : X → Type 0) (xs : List X) (i : ℕ) (x y : X) → i < length xs → All P (drop i xs) → All P (drop (i + 1) (set xs i y))
after_index P xs i x y within all =
    subst (All P) (sym (drop-set-lt (i + 1) xs i y (omega arith)))
    (All-tail P (get_or xs i x) (drop (i + 1) xs) (subst (All P) (drop_more xs i x within) all))

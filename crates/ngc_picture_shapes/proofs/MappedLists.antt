-- A list that is filled with the images of another's elements.
use Rattle.std.proofs.Common.{◌≡◌, ℕ, ◌+◌, ◌<◌, ◌≤◌, List, [], ◌∷◌, ◌++◌, length, get_or, take, map, ap, sym, ◌∙◌}
use Rattle.std.proofs.lemmas.List.{length-map, length-take-le, map_more, take_all}

pub how_many : {X Y : Type 0} (f : X → Y) (xs : List X) (i : ℕ) (ys : List Y) → i ≤ length xs → ys ≡ map f (take i xs) → length ys ≡ i
how_many f xs i ys inside filled = ap length filled ∙ (length-map (take i xs) f ∙ length-take-le i xs inside)

pub one_more : {X Y : Type 0} (f : X → Y) (xs : List X) (i : ℕ) (d : X) (ys more : List Y) (y : Y)
    → i < length xs → ys ≡ map f (take i xs) → y ≡ f (get_or xs i d) → more ≡ ys ++ y ∷ [] → more ≡ map f (take (i + 1) xs)
one_more f xs i d ys more y inside filled is pushed =
    pushed ∙ (ap (λ l. l ++ y ∷ []) filled ∙ (ap (λ e. map f (take i xs) ++ e ∷ []) is ∙ sym (map_more f xs i d inside)))

pub all_mapped : {X Y : Type 0} (f : X → Y) (xs : List X) (i : ℕ) (ys : List Y) → length xs ≤ i → ys ≡ map f (take i xs) → ys ≡ map f xs
all_mapped f xs i ys ended filled = filled ∙ ap (map f) (take_all i xs ended)

-- The first element of a list, and the rest.
use Rattle.std.proofs.Common.{◌≡◌, ◌≤◌, ◌<◌, ◌-◌, ◌==◌, ℕ, List, [], ◌∷◌, length, take, drop, false, Some, slice_index_or, get_or, map, arith, ◌∙◌}
use Rattle.std.proofs.Common.{ap, ◌++◌, ◌+◌, sym}
use Rattle.std.proofs.Math.Seq.{take-length}
use Rattle.std.proofs.lemmas.List.{length-take, map_more, take_all}
use Rattle.std.proofs.lemmas.Bool.Decides.{nat_tests}
use Rattle.ngc_machine_files.specs.Parts.{one_to_four}
use Rattle.ngc_machine_files.specs.declared.parts.Part.{Part}

pub nonempty : {A : Type 0} (xs : List A) → (length xs == 0) ≡ false → 1 ≤ length xs
nonempty [] h = cc
nonempty (x ∷ xs) h = omega arith

-- fewer than four so far, and at least one more follows
pub room : {A B : Type 0} (xs : List A) (made : List B) (x : B) (i : ℕ) (rest : List B) → made ≡ x ∷ rest → length rest ≤ i →
    i < length (take (length xs - 1) (drop 1 xs)) → length xs ≤ 4 → length made < 4
room xs made x i rest e r h few =
    let n = length-take (length xs - 1) (drop 1 xs) in
    rw e (omega (arith, n, r, h, few))

pub take-bound : {A : Type 0} (i : ℕ) (xs : List A) → length (take i xs) ≤ i
take-bound i xs = let n = length-take i xs in omega (arith, n)

pub first-rest : {A : Type 0} (xs : List A) (x : A) (n : ℕ) → 1 ≤ length xs → x ≡ slice_index_or xs 0 x → length (take (length xs - 1) (drop 1 xs)) ≤ n →
    x ∷ take n (take (length xs - 1) (drop 1 xs)) ≡ xs
first-rest [] x n h at all = absurd (omega (arith, h))
first-rest (y ∷ ys) x n h at all =
    let k : length (y ∷ ys) - 1 ≡ length ys = omega arith in
    let whole : take (length (y ∷ ys) - 1) ys ≡ ys = rw k (take-length ys) in
    let first : x ≡ y = at in
    rw (take_all n (take (length (y ∷ ys) - 1) ys) all, whole, first)

pub mapped-rest : {A B : Type 0} (f : A → B) (xs : List A) (d : A) (n : ℕ) → 1 ≤ length xs → length (take (length xs - 1) (drop 1 xs)) ≤ n →
    f (get_or xs 0 d) ∷ map f (take n (take (length xs - 1) (drop 1 xs))) ≡ map f xs
mapped-rest f [] d n h all = absurd (omega (arith, h))
mapped-rest f (y ∷ ys) d n h all =
    let k : length (y ∷ ys) - 1 ≡ length ys = omega arith in
    let whole : take (length (y ∷ ys) - 1) ys ≡ ys = rw k (take-length ys) in
    rw (take_all n (take (length (y ∷ ys) - 1) ys) all, whole)

pub one_to_four-yes : (parts : List Part) → 1 ≤ length parts → length parts ≤ 4 → one_to_four parts ≡ Some parts
one_to_four-yes parts least greatest = grind (arith, nat_tests)

-- the results for the first elements, and one more
pub mapped_more : {X Y : Type 0} (f : X → Y) (xs : List X) (ys more : List Y) (i : ℕ) (x : X) → i < length xs → x ≡ get_or xs i x → ys ≡ map f (take i xs)
    → more ≡ ys ++ f x ∷ [] → more ≡ map f (take (i + 1) xs)
mapped_more f xs ys more i x inside at made pushed =
    pushed ∙ ap (λ l. l ++ f x ∷ []) made ∙ ap (λ e. map f (take i xs) ++ f e ∷ []) at ∙ sym (map_more f xs i x inside)

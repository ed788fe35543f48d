-- Lists that are made peck by peck, and how deep pecks go.
use Rattle.std.proofs.Common.{◌≡◌, ℕ, zero, suc, ◌+◌, ℤ, pos, negsuc, ◌-ℤ◌, ◌*ℤ◌, ◌<ℤ◌, ◌≤ℤ◌, List, [], ◌∷◌, ◌++◌, refl, ap, ◌∙◌, arith, append-nil, subst}
use Rattle.std.specs.List.{flat_map}
use Rattle.std.proofs.lemmas.Grind.{flat_map-append}
use Rattle.std.proofs.lemmas.Int.{ints}
use Rattle.ngc_canned_cycles.specs.Holes.{counting}

-- one more number
pub counting-suc : (i n : ℕ) → counting i (suc n) ≡ counting i n ++ (i + n) ∷ []
counting-suc i zero = let e : i + 0 ≡ i = omega arith in rw e refl
counting-suc i (suc n) =
    let e : i + suc n ≡ (i + 1) + n = omega arith in
    rw e (ap (λ xs. i ∷ xs) (counting-suc (i + 1) n))

-- one more peck
pub flat_map-counting : {A : Type 0} (f : ℕ → List A) (n : ℕ) → flat_map f (counting 1 (n + 1)) ≡ flat_map f (counting 1 n) ++ f (n + 1)
flat_map-counting f n =
    let s : suc n ≡ n + 1 = omega arith in
    let t : 1 + n ≡ n + 1 = omega arith in
    let u : counting 1 (n + 1) ≡ counting 1 n ++ (n + 1) ∷ [] =
    subst (λ k. counting 1 k ≡ counting 1 n ++ (n + 1) ∷ []) s (subst (λ k. counting 1 (suc n) ≡ counting 1 n ++ k ∷ []) t (counting-suc 1 n)) in
    ap (flat_map f) u ∙ flat_map-append f (counting 1 n) ((n + 1) ∷ []) ∙ ap (λ xs. flat_map f (counting 1 n) ++ xs) (append-nil (f (n + 1)))

-- pecks go down
pub below : (r q : ℤ) (i : ℕ) → pos 0 <ℤ q → (r -ℤ (pos i *ℤ q)) ≤ℤ r
below r (pos a) i h = omega (arith, ints)
below r (negsuc a) i h = absurd (omega (arith, ints))

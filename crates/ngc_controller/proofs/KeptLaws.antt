-- The last elements of a list, as more are added.
use Rattle.std.proofs.Common.{◌≡◌, ℕ, zero, suc, ◌+◌, ◌-◌, ◌≤◌, min, List, [], ◌∷◌, ◌++◌, length, drop, refl, ap, sym, ◌∙◌, inl, inr, arith, length-append}
use Rattle.std.proofs.Common.{length-drop, drop-drop}
use Rattle.std.specs.Prelude.{replicate, flat_map}
use Rattle.std.proofs.lemmas.Bool.{cases_lt}
use Rattle.std.proofs.lemmas.List.{drop-append-le, drop-replicate, length-replicate}
use Rattle.std.proofs.lemmas.List.Concat.{flat_map-cons}
use Rattle.std.proofs.Math.Seq.{drop-append-add}
use Rattle.circular_buffer.specs.Buffer.{keep_last}

module _ {X : Type 0} where
  -- keeping the last once is the same as keeping them before and after more are added
  pub kept_twice : (k : ℕ) (xs ys : List X) → keep_last k (keep_last k xs ++ ys) ≡ keep_last k (xs ++ ys)
  kept_twice k xs ys =
      let d : ℕ = length xs - k in
      let first : drop d xs ++ ys ≡ drop d (xs ++ ys) = sym (drop-append-le d xs ys (omega arith)) in
      let long = length-append xs ys in
      let short = length-drop d (xs ++ ys) in
      let all : d + (length (drop d (xs ++ ys)) - k) ≡ length (xs ++ ys) - k = omega arith in
      ap (λ zs. keep_last k zs) first ∙ drop-drop (length (drop d (xs ++ ys)) - k) d (xs ++ ys) ∙ ap (λ m. drop m (xs ++ ys)) all

  -- an element with enough after it is not kept
  pub kept_behind : (k : ℕ) (xs ys : List X) → k ≤ length ys → keep_last k (xs ++ ys) ≡ keep_last k ys
  kept_behind k xs ys enough =
      let long = length-append xs ys in
      let at : length (xs ++ ys) - k ≡ length xs + (length ys - k) = omega arith in
      ap (λ m. drop m (xs ++ ys)) at ∙ drop-append-add xs ys (length ys - k)

  -- if there are more than fit, nothing else is kept
  kept_full : (k n : ℕ) (xs : List X) (x : X) → k ≤ n → keep_last k (xs ++ replicate n x) ≡ replicate k x
  kept_full k n xs x full =
      let many = length-replicate n x in
      let left : length (replicate n x) - k ≡ n - k = omega arith in
      let all : n - (n - k) ≡ k = omega arith in
      kept_behind k xs (replicate n x) (omega arith) ∙ ap (λ m. drop m (replicate n x)) left ∙ drop-replicate (n - k) n x ∙ ap (λ m. replicate m x) all

  pub kept_min : (k n m : ℕ) (xs : List X) (x : X) → m ≡ min n k → keep_last k (xs ++ replicate m x) ≡ keep_last k (xs ++ replicate n x)
  kept_min k n m xs x is = elim (cases_lt k n) [
    | inl more ↦ (kept_full k m xs x (omega arith) ∙ sym (kept_full k n xs x (omega arith)))
    | inr less ↦ (let same : m ≡ n = omega arith in ap (λ j. keep_last k (xs ++ replicate j x)) same)
  ]

-- if each has at least one result, the last of them have the last of the results
module _ {X Y : Type 0} (f : Y → List X) (some : (y : Y) → 1 ≤ length (f y)) where
  gives_enough : (ys : List Y) → length ys ≤ length (flat_map f ys)
  gives_enough [] = omega arith
  gives_enough (y ∷ ys) =
      let afterwards = gives_enough ys in
      let here = some y in
      let both = ap (λ xs. length xs) (flat_map-cons f y ys) in
      omega (arith, afterwards, here, both, length-append (f y) (flat_map f ys))

  kept_from : (k d : ℕ) (ys : List Y) → d ≤ length ys - k → keep_last k (flat_map f (drop d ys)) ≡ keep_last k (flat_map f ys)
  kept_from k zero ys few = refl
  kept_from k (suc d) [] few = absurd (omega arith)
  kept_from k (suc d) (y ∷ ys) few =
      let enough = gives_enough ys in
      kept_from k d ys (omega arith) ∙ sym (kept_behind k (f y) (flat_map f ys) (omega arith)) ∙ ap (λ xs. keep_last k xs) (sym (flat_map-cons f y ys))

  pub kept_given : (k : ℕ) (ys : List Y) → keep_last k (flat_map f (keep_last k ys)) ≡ keep_last k (flat_map f ys)
  kept_given k ys = kept_from k (length ys - k) ys (omega arith)

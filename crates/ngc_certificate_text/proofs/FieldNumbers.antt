-- The numbers of fields, gathered one by one.
use Rattle.std.proofs.Common.{◌≡◌, ℕ, suc, ◌+◌, ◌≤◌, ap, Bool, true, false, Option, Some, None, List, [], ◌∷◌, ◌++◌, length, refl, sym, ◌∙◌, append_assoc}
use Rattle.std.proofs.Common.{length-append, arith}
use Rattle.std.specs.Prelude.{ℤ, map, nat_le, if◌then◌else◌}
use Rattle.std.specs.Borrow.{Bor}
use Rattle.std.specs.Option.{option_map, option_and_then}
use Rattle.std.proofs.lemmas.Bool.Decides.{nat_tests}
use Rattle.std.proofs.lemmas.List.{append-nil}
use Rattle.ngc_certificate_text.specs.Number.{number_in}
use Rattle.ngc_certificate_text.specs.Lines.{numbers_in}
use Rattle.ngc_certificate_text.specs.Clamped.{clamped, at_most_eight, numbers_left}

-- the greatest number of remaining bytes
abbrev pub room_left : Option (Bor (List ℕ)) → ℕ
room_left None = 0
room_left (Some text) = length text.now + 1

-- the result of these numbers and those to come
abbrev pub gathered : List ℤ → Option (List ℤ) → Option (List ℤ)
gathered items None = None
gathered items (Some zs) = if nat_le (length items + length zs) 8 then Some (items ++ map clamped zs) else None

few_more : (n : ℕ) → nat_le (0 + n) 8 ≡ nat_le n 8
few_more n = ap (λ k. nat_le k 8) (omega arith)

by_count : (a b : Bool) (x : List ℤ) → a ≡ b → (if a then Some x else None) ≡ (if b then Some x else None)
by_count a b x e = rw e refl

begun_with : (o : Option (List ℤ)) → at_most_eight o ≡ gathered [] o
begun_with None = refl
begun_with (Some zs) = by_count (nat_le (length zs) 8) (nat_le (0 + length zs) 8) (map clamped zs) (sym (few_more (length zs)))

pub gather_begins : (fs : List (List ℕ)) (items : List ℤ) → items ≡ [] → numbers_left fs ≡ gathered items (numbers_in fs)
gather_begins fs items e = begun_with (numbers_in fs) ∙ ap (λ (l : List ℤ). gathered l (numbers_in fs)) (sym e)

few_items : (n : ℕ) → n ≤ 8 → nat_le (n + 0) 8 ≡ true
few_items n h = grind (arith, nat_tests)

none_more : numbers_in [] ≡ Some []
unfolding numbers_in
none_more = refl

pub gather_ends : (items : List ℤ) → length items ≤ 8 → gathered items (numbers_in []) ≡ Some items
gather_ends items h =
    ap (gathered items) none_more
    ∙ ap (λ (b : Bool). if b then Some (items ++ []) else None) (few_items (length items) h)
    ∙ ap Some (append-nil items)

numbers_cons : (f : List ℕ) (fs : List (List ℕ)) → numbers_in (f ∷ fs) ≡ option_and_then (λ z. option_map (λ zs. z ∷ zs) (numbers_in fs)) (number_in f)
unfolding numbers_in
numbers_cons f fs = refl

some_clamped : (o : Option ℤ) (x : ℤ) → Some x ≡ option_map clamped o → (z : ℤ) × (o ≡ Some z) × (x ≡ clamped z)
some_clamped None x h = absurd (cc h)
some_clamped (Some z) x h = (z, refl, cc h)

none_clamped : (o : Option ℤ) → None ≡ option_map clamped o → o ≡ None
none_clamped None h = refl
none_clamped (Some z) h = absurd (cc h)

one_more : (items : List ℤ) (z : ℤ) (o : Option (List ℤ)) → gathered items (option_map (λ zs. z ∷ zs) o) ≡ gathered (items ++ (clamped z ∷ [])) o
one_more items z None = refl
one_more items z (Some zs) =
    ap (λ (l : List ℤ). if nat_le (length items + suc (length zs)) 8 then Some l else None) (sym (append_assoc items (clamped z ∷ []) (map clamped zs)))
    ∙ by_count (nat_le (length items + suc (length zs)) 8) (nat_le (length (items ++ (clamped z ∷ [])) + length zs) 8) _
    (ap (λ (n : ℕ). nat_le n 8) (omega (arith, length-append items (clamped z ∷ []))))

pub gather_more : (items : List ℤ) (all fs : List (List ℕ)) (f : List ℕ) (x : ℤ) → all ≡ f ∷ fs → Some x ≡ option_map clamped (number_in f)
    → gathered items (numbers_in all) ≡ gathered (items ++ (x ∷ [])) (numbers_in fs)
gather_more items all fs f x e h =
    let s = some_clamped (number_in f) x h in
    ap (λ (l : List (List ℕ)). gathered items (numbers_in l)) e ∙ ap (gathered items) (numbers_cons f fs)
    ∙ ap (λ (o : Option ℤ). gathered items (option_and_then (λ z. option_map (λ zs. z ∷ zs) (numbers_in fs)) o)) s.1
    ∙ one_more items s.0 (numbers_in fs) ∙ ap (λ (y : ℤ). gathered (items ++ (y ∷ [])) (numbers_in fs)) (sym s.2)

pub gather_fails : (items : List ℤ) (all fs : List (List ℕ)) (f : List ℕ) → all ≡ f ∷ fs → None ≡ option_map clamped (number_in f) →
    gathered items (numbers_in all) ≡ None
gather_fails items all fs f e h =
    ap (λ (l : List (List ℕ)). gathered items (numbers_in l)) e ∙ ap (gathered items) (numbers_cons f fs)
    ∙ ap (λ (o : Option ℤ). gathered items (option_and_then (λ z. option_map (λ zs. z ∷ zs) (numbers_in fs)) o)) (none_clamped (number_in f) h)

too_many : (n m : ℕ) → 8 ≤ n → nat_le (n + suc m) 8 ≡ false
too_many n m h = grind (arith, nat_tests)

full_more : (items : List ℤ) (z : ℤ) (o : Option (List ℤ)) → 8 ≤ length items → gathered items (option_map (λ zs. z ∷ zs) o) ≡ None
full_more items z None h = refl
full_more items z (Some zs) h = rw (too_many (length items) (length zs) h) refl

pub gather_full : (items : List ℤ) (all fs : List (List ℕ)) (f : List ℕ) (x : ℤ) → all ≡ f ∷ fs → Some x ≡ option_map clamped (number_in f) → 8 ≤ length items
    → gathered items (numbers_in all) ≡ None
gather_full items all fs f x e h full =
    let s = some_clamped (number_in f) x h in
    ap (λ (l : List (List ℕ)). gathered items (numbers_in l)) e ∙ ap (gathered items) (numbers_cons f fs)
    ∙ ap (λ (o : Option ℤ). gathered items (option_and_then (λ z. option_map (λ zs. z ∷ zs) (numbers_in fs)) o)) s.1
    ∙ full_more items s.0 (numbers_in fs) full

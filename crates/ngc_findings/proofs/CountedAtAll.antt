-- Something is counted exactly if it is found.
use Rattle.std.proofs.Common.{◌≡◌, ℕ, ◌+◌, Bool, true, false, List, [], ◌∷◌, arith, refl, sym, ap, ◌∙◌}
use Rattle.std.proofs.lemmas.Bool.Decides.{nat_tests}
use Rattle.std.specs.Prelude.{◌||◌, cond, count_by, fold, nat_lt}
use Rattle.std.specs.List.{list_any}

or_false : (b : Bool) → b ≡ (b || false)
or_false true = refl
or_false false = refl

or_true : (b : Bool) → true ≡ (b || true)
or_true true = refl
or_true false = refl

one_more : (n : ℕ) (b any : Bool) → (nat_lt 0 (n + cond b 1 0) || any) ≡ (nat_lt 0 n || (b || any))
one_more n false any = let none : n + 0 ≡ n = omega arith in ap (λ k. nat_lt 0 k || any) none
one_more n true any =
    let some : nat_lt 0 (n + 1) ≡ true = grind (arith, nat_tests) in
    ap (λ b. b || any) some ∙ or_true (nat_lt 0 n)

counted_from : {X : Type 0} (p : X → Bool) (xs : List X) (n : ℕ) → nat_lt 0 (fold (λ a x. a + cond (p x) 1 0) n xs) ≡ (nat_lt 0 n || list_any p xs)
counted_from p [] n = or_false (nat_lt 0 n)
counted_from p (x ∷ xs) n = counted_from p xs (n + cond (p x) 1 0) ∙ one_more n (p x) (list_any p xs)

counted : {X : Type 0} (p : X → Bool) (xs : List X) → list_any p xs ≡ nat_lt 0 (count_by p xs)
counted p xs = sym (counted_from p xs 0)

pub one_counted : {X : Type 0} (p q r : X → Bool) (xs : List X) →
    (list_any p xs || (list_any q xs || list_any r xs)) ≡ (nat_lt 0 (count_by p xs) || (nat_lt 0 (count_by q xs) || nat_lt 0 (count_by r xs)))
one_counted p q r xs =
    ap (λ b. b || (list_any q xs || list_any r xs)) (counted p xs)
    ∙ ap (λ b. nat_lt 0 (count_by p xs) || (b || list_any r xs)) (counted q xs)
    ∙ ap (λ b. nat_lt 0 (count_by p xs) || (nat_lt 0 (count_by q xs) || b)) (counted r xs)

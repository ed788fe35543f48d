-- Look-up in two tables, in order.
use Rattle.std.proofs.Common.{◌≡◌, ℕ, List, [], ◌∷◌, ◌++◌, Option, Some, Bool, true, false, cond, refl}
use Rattle.std.specs.Option.{option_or}
use Rattle.std.specs.Prelude.{◌==◌}
use Rattle.ngc_modal_state.specs.Tables.{at_number}

in_turn : {A : Type 0} (found : Bool) (x : A) (all here rest : Option A) → all ≡ option_or here rest →
    cond found (Some x) all ≡ option_or (cond found (Some x) here) rest
in_turn true x all here rest e = refl
in_turn false x all here rest e = e

pub at_number-append : {A : Type 0} (n : ℕ) (xs ys : List (ℕ × A)) → at_number n (xs ++ ys) ≡ option_or (at_number n xs) (at_number n ys)
at_number-append n [] ys = refl
at_number-append n ((k, x) ∷ xs) ys = in_turn (n == k) x _ _ _ (at_number-append n xs ys)

pub found_in_turn : {A : Type 0} (n : ℕ) (xs ys zs : List (ℕ × A)) →
    at_number n (xs ++ (ys ++ zs)) ≡ option_or (at_number n xs) (option_or (at_number n ys) (at_number n zs))
found_in_turn n xs ys zs = rw (at_number-append n xs (ys ++ zs)) (rw (at_number-append n ys zs) refl)

-- Tests that are true.
use Rattle.std.proofs.Common.{refl, arith, List, [], ◌∷◌, true, false, map, ℤ, ◌≤ℤ◌}
use Rattle.std.specs.Prelude.{IsTrue, Bool, ◌&&◌, ◌||◌, int_le}
use Rattle.std.specs.List.{list_all}
use Rattle.std.proofs.lemmas.Int.{ints}

pub le_of : (a b : ℤ) → IsTrue (int_le a b) → a ≤ℤ b
le_of a b h = grind (arith, ints)

pub le_test : (a b : ℤ) → a ≤ℤ b → IsTrue (int_le a b)
le_test a b h = grind (arith, ints)

no_truth : IsTrue false → ⊥
no_truth h = cc

pub both : (a b : Bool) → IsTrue (a && b) → IsTrue a × IsTrue b
both true b h = (refl, h)
both false b h = absurd (no_truth h)

pub and : (a b : Bool) → IsTrue a → IsTrue b → IsTrue (a && b)
and true b h i = i
and false b h i = absurd (no_truth h)

left_or : (a b : Bool) → IsTrue a → IsTrue (a || b)
left_or true b h = refl
left_or false b h = absurd (no_truth h)

right_or : (a b : Bool) → IsTrue b → IsTrue (a || b)
right_or true b h = refl
right_or false b h = h

pub or_to : (a b c d : Bool) → (IsTrue a → IsTrue c) → (IsTrue b → IsTrue d) → IsTrue (a || b) → IsTrue (c || d)
or_to true b c d f g h = left_or c d (f refl)
or_to false b c d f g h = right_or c d (g h)

pub list_to : {X : Type 0} (p q : X → Bool) (xs : List X) → ((x : X) → IsTrue (p x) → IsTrue (q x)) → IsTrue (list_all p xs) → IsTrue (list_all q xs)
list_to p q [] f h = refl
list_to p q (x ∷ xs) f h = let e = both (p x) (list_all p xs) h in and (q x) (list_all q xs) (f x e.0) (list_to p q xs f e.1)

-- from tests of the images of a list's elements
pub of_images : {X Y : Type 0} (g : X → Y) (p : Y → Bool) (q : X → Bool) (xs : List X) → ((x : X) → IsTrue (p (g x)) → IsTrue (q x))
    → IsTrue (list_all p (map g xs)) → IsTrue (list_all q xs)
of_images g p q [] f h = refl
of_images g p q (x ∷ xs) f h = let e = both (p (g x)) (list_all p (map g xs)) h in and (q x) (list_all q xs) (f x e.0) (of_images g p q xs f e.1)

-- and to tests of other images
pub to_images : {X Y : Type 0} (g k : X → Y) (p : Y → Bool) (xs : List X) → ((x : X) → IsTrue (p (g x)) → IsTrue (p (k x)))
    → IsTrue (list_all p (map g xs)) → IsTrue (list_all p (map k xs))
to_images g k p [] f h = refl
to_images g k p (x ∷ xs) f h =
    let e = both (p (g x)) (list_all p (map g xs)) h in and (p (k x)) (list_all p (map k xs)) (f x e.0) (to_images g k p xs f e.1)

-- A place of a list is set.
use Rattle.std.proofs.Common.{◌≡◌, ℕ, ◌+◌, ◌<◌, ◌≤◌, List, [], ◌∷◌, ◌++◌, length, take, drop, get_or, Option, ap, sym, ◌∙◌}
use Rattle.std.proofs.lemmas.List.{append-nil, take-append-drop, take-set, drop-set, drop_more, take_all, drop_all}
use Rattle.std.specs.Prelude.{slice_set}
use Rattle.ngc_dialect_notes.specs.declared.kind.Kind.{Kind}
use Rattle.ngc_dialect_notes.specs.declared.notes.Note.{Note}
use Rattle.ngc_dialect_notes.specs.Notes.{counted_in}

set_at : {X : Type 0} → (xs : List X) (i : ℕ) (y : X) → i < length xs → take i xs ++ (y ∷ drop (i + 1) xs) ≡ slice_set xs i y
set_at xs i y h =
    sym (ap (λ l. l ++ (y ∷ drop (i + 1) xs)) (take-set xs i y)) ∙ sym (ap (λ l. take i (slice_set xs i y) ++ l) (drop-set xs i y h))
    ∙ take-append-drop i (slice_set xs i y)

-- the places are left as they are up to one that is set
pub placed : (line : ℕ) (kind : Kind) (xs all : List (Option Note)) (i : ℕ) (x y d : Option Note) → i < length xs → get_or xs i d ≡ x
    → take i xs ++ counted_in line kind (drop i xs) ≡ counted_in line kind all
    → counted_in line kind (x ∷ drop (i + 1) xs) ≡ y ∷ drop (i + 1) xs
    → slice_set xs i y ≡ counted_in line kind all
placed line kind xs all i x y d inside found before made =
    sym (set_at xs i y inside) ∙ sym (ap (λ l. take i xs ++ l) made)
    ∙ sym (ap (λ z. take i xs ++ counted_in line kind (z ∷ drop (i + 1) xs)) found)
    ∙ sym (ap (λ l. take i xs ++ counted_in line kind l) (drop_more xs i d inside)) ∙ before

-- no place is set
pub unchanged : (line : ℕ) (kind : Kind) (xs all : List (Option Note)) (i : ℕ) → length xs ≤ i
    → take i xs ++ counted_in line kind (drop i xs) ≡ counted_in line kind all → xs ≡ counted_in line kind all
unchanged line kind xs all i ends before =
    sym (append-nil xs) ∙ sym (ap (λ l. l ++ []) (take_all i xs ends)) ∙ sym (ap (λ l. take i xs ++ counted_in line kind l) (drop_all i xs ends)) ∙ before

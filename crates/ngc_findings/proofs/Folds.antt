-- The result over a list, one element further.
use Rattle.std.proofs.Common.{◌≡◌, ℕ, ◌+◌, ◌<◌, ◌≤◌, List, [], ◌∷◌, ◌++◌, length, get_or, drop, flat_map, Option, ap, sym, ◌∙◌, refl}
use Rattle.std.specs.Prelude.{fold, map}
use Rattle.std.proofs.lemmas.List.{drop_more, at_drop_all}
use Rattle.std.proofs.lemmas.List.Concat.{flat_map-cons}
use Rattle.std.proofs.lemmas.List.Sums.{fold-append}
use Rattle.ngc_machine_files.specs.declared.machine.Fixture.{Fixture}
use Rattle.ngc_collision.specs.Body.{Solid}
use Rattle.ngc_fixed_length.specs.declared.points.GridBox.{GridBox}
use Rattle.ngc_certificate_text.specs.declared.piece.Piece.{Piece}
use Rattle.ngc_findings.specs.Extents.{joint_box}
use Rattle.ngc_findings.specs.Gaps.{gap}
use Rattle.ngc_findings.specs.Nearing.{nearer, distances}
use Rattle.ngc_findings.specs.declared.nearest.Nearest.{Nearest}

pub next_folded : {X Y Z : Type 0} (step : Z → Y → Z) (f : X → List Y) (first : Z) (xs : List X) (i : ℕ) (x : X) → i < length xs → x ≡ get_or xs i x
    → fold step (fold step first (f x)) (flat_map f (drop (i + 1) xs)) ≡ fold step first (flat_map f (drop i xs))
next_folded step f first xs i x inside found =
    sym (fold-append step first (f x) (flat_map f (drop (i + 1) xs)))
    ∙ ap (λ y. fold step first (f y ++ flat_map f (drop (i + 1) xs))) found
    ∙ ap (fold step first) (sym (flat_map-cons f (get_or xs i x) (drop (i + 1) xs)))
    ∙ ap (λ l. fold step first (flat_map f l)) (sym (drop_more xs i x inside))

pub next_of : {X : Type 0} (f : X → List Nearest) (best : Option Nearest) (xs : List X) (i : ℕ) (x : X) → i < length xs → x ≡ get_or xs i x
    → fold nearer (fold nearer best (f x)) (flat_map f (drop (i + 1) xs)) ≡ fold nearer best (flat_map f (drop i xs))
next_of f best xs i x inside found = next_folded nearer f best xs i x inside found

pub next_fixture : (best : Option Nearest) (fs : List Fixture) (b : Solid) (i : ℕ) (f : Fixture) → i < length fs → f ≡ get_or fs i f
    → fold nearer (nearer best (record { fixture = i; distance = gap f b })) (distances (i + 1) (drop (i + 1) fs) b)
    ≡ fold nearer best (distances i (drop i fs) b)
next_fixture best fs b i f inside found =
    ap (λ (x : Fixture). fold nearer (nearer best (record { fixture = i; distance = gap x b })) (distances (i + 1) (drop (i + 1) fs) b)) found
    ∙ ap (λ l. fold nearer best (distances i l b)) (sym (drop_more fs i f inside))

-- none is left
pub none_left : {X : Type 0} (f : X → List Nearest) (best : Option Nearest) (xs : List X) (i : ℕ) → length xs ≤ i →
    fold nearer best (flat_map f (drop i xs)) ≡ best
none_left f best xs i afterwards = at_drop_all (λ l. fold nearer best (flat_map f l)) xs i afterwards

pub flat_mapped : {X Y : Type 0} (f : Y → List Nearest) (h : X → Y) (xs : List X) → flat_map f (map h xs) ≡ flat_map (λ x. f (h x)) xs
flat_mapped f h [] = refl
flat_mapped f h (x ∷ xs) =
    flat_map-cons f (h x) (map h xs) ∙ ap (λ l. f (h x) ++ l) (flat_mapped f h xs) ∙ sym (flat_map-cons (λ y. f (h y)) x xs)

-- ---- the boxes of pieces

pub next_box : (bounds : GridBox) (pieces : List Piece) (k : ℕ) (p : Piece) → k < length pieces → p ≡ get_or pieces k p →
    fold joint_box (joint_box bounds p.bounds) (map (λ (q : Piece). q.bounds) (drop (k + 1) pieces))
    ≡ fold joint_box bounds (map (λ (q : Piece). q.bounds) (drop k pieces))
next_box bounds pieces k p inside found =
    ap (λ (x : Piece). fold joint_box (joint_box bounds x.bounds) (map (λ (q : Piece). q.bounds) (drop (k + 1) pieces))) found
    ∙ ap (λ (l : List Piece). fold joint_box bounds (map (λ (q : Piece). q.bounds) l)) (sym (drop_more pieces k p inside))

pub no_box : (bounds : GridBox) (pieces : List Piece) (k : ℕ) → length pieces ≤ k →
    fold joint_box bounds (map (λ (q : Piece). q.bounds) (drop k pieces)) ≡ bounds
no_box bounds pieces k afterwards = at_drop_all (λ (l : List Piece). fold joint_box bounds (map (λ (q : Piece). q.bounds) l)) pieces k afterwards

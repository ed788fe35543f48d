-- The fixtures that texts write, up to the first mistake.
use Rattle.std.proofs.Common.{◌≡◌, ◌∙◌, ℕ, ◌+◌, ◌<◌, List, [], ◌∷◌, Ok, Err, Result, length, take, drop, map, fold, get_or, ap, sym, refl}
use Rattle.std.proofs.lemmas.List.{map-append, take_more, take-append-drop}
use Rattle.std.proofs.lemmas.List.Sums.{fold-append}
use Rattle.std.specs.Borrow.{Bor}
use Rattle.ngc_added_boxes.specs.Boxes.{AddedBoxes, no_boxes}
use Rattle.ngc_added_boxes.specs.Texts.{and_text, parsed_fixtures, with_text}
use Rattle.ngc_added_boxes.specs.declared.reading.BoxMistake.{BoxMistake}

-- after a mistake no text counts
mistake_stays : (texts : List (List ℕ)) (mistake : BoxMistake) → fold and_text (Err mistake) texts ≡ Err mistake
mistake_stays [] mistake = refl
mistake_stays (text ∷ texts) mistake = mistake_stays texts mistake

pub first_mistake : (list : List (Bor (List ℕ))) (i : ℕ) (d : Bor (List ℕ)) (boxes : AddedBoxes) (text : List ℕ) (mistake : BoxMistake) → i < length list
    → parsed_fixtures (map (λ t. t.now) (take i list)) ≡ Ok boxes → text ≡ (get_or list i d).now → Err mistake ≡ with_text boxes text
    → parsed_fixtures (map (λ t. t.now) list) ≡ Err mistake
first_mistake list i d boxes text mistake within so_far is refused =
    let now : Bor (List ℕ) → List ℕ = λ t. t.now in
    let start : Result AddedBoxes BoxMistake = Ok no_boxes in
    let here : fold and_text start (map now (take (i + 1) list)) ≡ Err mistake =
    ap (λ (xs : List (Bor (List ℕ))). fold and_text start (map now xs)) (take_more list i d within)
    ∙ ap (fold and_text start) (map-append now (take i list) (get_or list i d ∷ []))
    ∙ fold-append and_text start (map now (take i list)) (now (get_or list i d) ∷ [])
    ∙ ap (λ (r : Result AddedBoxes BoxMistake). and_text r (now (get_or list i d))) so_far
    ∙ ap (with_text boxes) (sym is)
    ∙ sym refused in
    ap (λ (xs : List (Bor (List ℕ))). fold and_text start (map now xs)) (sym (take-append-drop (i + 1) list))
    ∙ ap (fold and_text start) (map-append now (take (i + 1) list) (drop (i + 1) list))
    ∙ fold-append and_text start (map now (take (i + 1) list)) (map now (drop (i + 1) list))
    ∙ ap (λ (r : Result AddedBoxes BoxMistake). fold and_text r (map now (drop (i + 1) list))) here
    ∙ mistake_stays (map now (drop (i + 1) list)) mistake

-- A text that is written in two parts.
use Rattle.std.proofs.Common.{◌≡◌, List, [], ◌++◌, ℕ, Option, ap, subst, sym, ◌∙◌}
use Rattle.std.proofs.lemmas.List.{append-nil}
use Rattle.ngc_text.proofs.AppendedTexts.{begins_after}
use Rattle.ngc_text.specs.Written.{AppendsPrefix}
use Rattle.ngc_text.specs.Collected.{WritesPrefix}

-- the text is not all written while a part of it is still collected
pub front_begun_all : (x y z : Option (List ℕ)) (before after : List ℕ) → WritesPrefix x y before after → AppendsPrefix y z after →
    AppendsPrefix x z before
front_begun_all x y z before after w b =
    let P : List ℕ → Type 0 = λ text. AppendsPrefix x z text in
    let text : w.0 ++ (after ++ []) ≡ before = ap (λ l. w.0 ++ l) (append-nil after) ∙ sym w.2 in
    subst P text (begins_after x y z w.0 after [] w.1 b)

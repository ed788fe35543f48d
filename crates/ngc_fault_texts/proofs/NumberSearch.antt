-- A number is on a page exactly where it is among the page's numbers.
use Rattle.std.proofs.Common.{◌≡◌, ◌≢◌, eq-eqb, ◌==◌, ◌<◌, ◌+◌, ◌++◌, ◌||◌, ℕ, Bool, true, false, List, [], ◌∷◌, ap, drop, get_or, length, map, refl, ◌∙◌}
use Rattle.std.proofs.Common.{if◌then◌else◌}
use Rattle.std.specs.List.{list_any}
use Rattle.std.proofs.lemmas.Bool.{ne_eqb}
use Rattle.std.proofs.lemmas.List.{at_drop_more}
use Rattle.ngc_fault_texts.specs.Explanations.{numbers_of, row_text, told_in}
use Rattle.ngc_fault_texts.specs.declared.parts.Part.{Part}
use Rattle.ngc_fault_texts.specs.declared.parts.Row.{Row}

pick : (b x y z : Bool) → (x || y) ≡ z → ((b || x) || y) ≡ (b || z)
pick true x y z same = refl
pick false x y z same = same

any_of_row : (number : ℕ) (rows : List Row) (more : List ℕ)
    → (list_any (λ (row : Row). row.number == number) rows || list_any (λ n. n == number) more)
    ≡ list_any (λ n. n == number) (map (λ (row : Row). row.number) rows ++ more)
any_of_row number [] more = refl
any_of_row number (row ∷ rows) more = pick (row.number == number) _ _ _ (any_of_row number rows more)

pub any_on_page : (number : ℕ) (parts : List Part)
    → list_any (λ (part : Part). list_any (λ (row : Row). row.number == number) part.rows.now) parts ≡ list_any (λ n. n == number) (numbers_of parts)
any_on_page number [] = refl
any_on_page number (part ∷ parts) =
    ap (λ b. list_any (λ (row : Row). row.number == number) part.rows.now || b) (any_on_page number parts) ∙ any_of_row number part.rows.now (numbers_of parts)

-- a row that has the number is written, and another isn't
pub chosen : (number : ℕ) (part : Part) (rows : List Row) (i : ℕ) (d : Row) → i < length rows → (get_or rows i d).number ≡ number
    → told_in number part (drop i rows) ≡ row_text part (get_or rows i d) ++ told_in number part (drop (i + 1) rows)
chosen number part rows i d within is =
    at_drop_more (told_in number part) rows i d within
    ∙ ap (λ (b : Bool). (if b then row_text part (get_or rows i d) else []) ++ told_in number part (drop (i + 1) rows)) (eq-eqb _ _ is)

pub passed : (number : ℕ) (part : Part) (rows : List Row) (i : ℕ) (d : Row) → i < length rows → (get_or rows i d).number ≢ number
    → told_in number part (drop i rows) ≡ told_in number part (drop (i + 1) rows)
passed number part rows i d within is =
    at_drop_more (told_in number part) rows i d within
    ∙ ap (λ (b : Bool). (if b then row_text part (get_or rows i d) else []) ++ told_in number part (drop (i + 1) rows)) (ne_eqb _ _ is)

pub cannot_be : {X : Type 0} → true ≡ false → X
cannot_be bad = cc

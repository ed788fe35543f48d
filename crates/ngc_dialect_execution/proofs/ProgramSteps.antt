-- One line of a program after another.
use Rattle.std.proofs.Common.{◌≡◌, ℕ, List, [], ◌∷◌, ◌++◌, Bool, true, false, map, refl, sym, ◌∙◌, ap}
use Rattle.std.specs.Prelude.{if◌then◌else◌}
use Rattle.std.proofs.lemmas.List.{append_assoc, append-nil, map-append}
use Rattle.ngc_dialect_names.specs.declared.dialect.Dialect.{Dialect}
use Rattle.ngc_dialect_execution.specs.declared.text.LinesBefore.{LinesBefore}
use Rattle.ngc_dialect_execution.specs.declared.text.Mark.{Mark}
use Rattle.ngc_dialect_execution.specs.Text.{ProgramLines, first_byte, is_end, lines_after, lines_among, mark_of, number_of}

-- a program with more lines before its own
abbrev pub after_lines : List (List ℕ) → ProgramLines → ProgramLines
after_lines done p = record p { lines = done ++ p.lines }

yes : {A : Type 0} (b : Bool) (x y : A) → b ≡ true → (if b then x else y) ≡ x
yes true x y e = refl
yes false x y e = absurd (cc e)

no : {A : Type 0} (b : Bool) (x y : A) → b ≡ false → (if b then x else y) ≡ y
no true x y e = absurd (cc e)
no false x y e = refl

abbrev made : Dialect → List (List ℕ) → ℕ → ProgramLines
made d lines last = record { dialect = d; lines = lines; last = last }

-- the percent sign that ends the program
pub ends_here : (d : Dialect) (before now : LinesBefore) (mark : Mark) (done lines rest : List (List ℕ)) (bytes : List ℕ) (last : ℕ) (whole : ProgramLines) →
    lines ≡ bytes ∷ rest → mark ≡ mark_of before d (first_byte bytes) → now ≡ lines_after before (first_byte bytes) → is_end mark ≡ true
    → last ≡ number_of now.count → after_lines done (lines_among d before lines) ≡ whole → made d done last ≡ whole
ends_here d before now mark done lines rest bytes last whole split is after ends number all =
    sym (ap (λ (l : List (List ℕ)). made d l last) (append-nil done))
    ∙ ap (λ (n : ℕ). made d (done ++ []) n) (number ∙ ap (λ (n : LinesBefore). number_of n.count) after)
    ∙ ap (after_lines done) (sym (yes (is_end (mark_of before d (first_byte bytes))) _ _ (ap is_end (sym is) ∙ ends)))
    ∙ ap (λ (l : List (List ℕ)). after_lines done (lines_among d before l)) (sym split) ∙ all

-- a line of the program
pub goes_by : (d : Dialect) (before now : LinesBefore) (mark : Mark) (done more lines rest : List (List ℕ)) (bytes : List ℕ) (whole : ProgramLines) →
    lines ≡ bytes ∷ rest → mark ≡ mark_of before d (first_byte bytes) → now ≡ lines_after before (first_byte bytes) → is_end mark ≡ false
    → more ≡ done ++ (bytes ∷ []) → after_lines done (lines_among d before lines) ≡ whole → after_lines more (lines_among d now rest) ≡ whole
goes_by d before now mark done more lines rest bytes whole split is after still pushed all =
    let tail : ProgramLines = lines_among d (lines_after before (first_byte bytes)) rest in
    ap (λ (l : List (List ℕ)). after_lines l (lines_among d now rest)) pushed
    ∙ ap (λ (n : LinesBefore). after_lines (done ++ (bytes ∷ [])) (lines_among d n rest)) after
    ∙ ap (λ (l : List (List ℕ)). made tail.dialect l tail.last) (append_assoc done (bytes ∷ []) tail.lines)
    ∙ ap (after_lines done) (sym (no (is_end (mark_of before d (first_byte bytes))) _ _ (ap is_end (sym is) ∙ still)))
    ∙ ap (λ (l : List (List ℕ)). after_lines done (lines_among d before l)) (sym split) ∙ all

-- the text's end
pub text_over : (d : Dialect) (before : LinesBefore) (done lines : List (List ℕ)) (last : ℕ) (whole : ProgramLines) → lines ≡ []
    → last ≡ number_of before.count → after_lines done (lines_among d before lines) ≡ whole → made d done last ≡ whole
text_over d before done lines last whole none number all =
    sym (ap (λ (l : List (List ℕ)). made d l last) (append-nil done)) ∙ ap (λ (n : ℕ). made d (done ++ []) n) number
    ∙ ap (λ (l : List (List ℕ)). after_lines done (lines_among d before l)) (sym none) ∙ all

pub map_pushed : {R X : Type 0} (now : R → X) (xs ys : List R) (x : R) → ys ≡ xs ++ (x ∷ []) → map now ys ≡ map now xs ++ (now x ∷ [])
map_pushed now xs ys x e = ap (map now) e ∙ map-append now xs (x ∷ [])

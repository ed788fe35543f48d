-- One byte of a line's text.
use Rattle.std.proofs.Common.{◌≡◌, ◌≢◌, ℕ, suc, ◌+◌, ◌<◌, ◌≤◌, ◌-◌, Bool, true, false, Option, Some, None, refl, List, ◌∷◌, ◌++◌, length, drop, get_or, ap, sym, ◌∙◌, arith}
use Rattle.std.specs.Prelude.{◌==◌}
use Rattle.std.specs.Option.{option_to_list, option_map}
use Rattle.std.proofs.Math.Seq.{drop-cons}
use Rattle.std.proofs.lemmas.List.{length-drop, take_more_set}
use Rattle.std.proofs.lemmas.Bool.Decides.{nat_tests}
use Rattle.ngc_line_reader.specs.declared.text.Place.{Place}
use Rattle.ngc_line_reader.specs.declared.text.Place.TheVariants.{Outside, InComment, InRemark}
use Rattle.ngc_line_reader.specs.Text.{kept, place_after, text_from, columns_from}

-- a byte from '*' to '`' except ';'
plain_place : (place : Place) (b : ℕ) → 42 ≤ b → b ≤ 96 → b ≢ 59 → place_after place b ≡ place
plain_place Outside b low high other = grind (arith, nat_tests)
plain_place InComment b low high other = grind (arith, nat_tests)
plain_place InRemark b low high other = refl

plain_kept : (place : Place) (b : ℕ) (last : Bool) → 42 ≤ b → b ≤ 96 → b ≢ 59 → kept place b last ≡ Some b
plain_kept Outside b last low high other = grind (arith, nat_tests)
plain_kept InComment b last low high other = refl
plain_kept InRemark b last low high other = refl

-- a byte that is not kept
blank_place : (place : Place) (b : ℕ) (last : Bool) → kept place b last ≡ None → place_after place b ≡ place
blank_place Outside b true none = grind (arith, nat_tests)
blank_place Outside b false none = grind (arith, nat_tests)
blank_place InComment b last none = absurd cc
blank_place InRemark b last none = refl

left_over : (i n m : ℕ) → i < n → m ≡ n - suc i → (m == 0) ≡ (i + 1 == n)
left_over i n m h e = grind (arith, nat_tests)

pub text_step : (place : Place) (line : List ℕ) (i : ℕ) → i < length line → text_from place (drop i line) ≡
    option_to_list (kept place (get_or line i 0) (i + 1 == length line)) ++ text_from (place_after place (get_or line i 0)) (drop (i + 1) line)
text_step place line i h =
    let b = get_or line i 0 in
    let rest = drop (suc i) line in
    let last : (length rest == 0) ≡ (i + 1 == length line) = left_over i (length line) (length rest) h (length-drop (suc i) line) in
    let one : i + 1 ≡ suc i = omega arith in
    ap (λ (s : List ℕ). text_from place s) (drop-cons line i 0 h)
    ∙ ap (λ (x : Bool). option_to_list (kept place b x) ++ text_from (place_after place b) rest) last
    ∙ ap (λ (k : ℕ). option_to_list (kept place b (i + 1 == length line)) ++ text_from (place_after place b) (drop k line)) (sym one)

abbrev column_part : ℕ → Option ℕ → List ℕ
column_part column byte = option_to_list (option_map (λ (_ : ℕ). column) byte)

pub columns_step : (place : Place) (line : List ℕ) (i : ℕ) → i < length line → columns_from place (i + 1) (drop i line) ≡
    option_to_list (option_map (λ (_ : ℕ). i + 1) (kept place (get_or line i 0) (i + 1 == length line)))
    ++ columns_from (place_after place (get_or line i 0)) ((i + 1) + 1) (drop (i + 1) line)
columns_step place line i h =
    let b = get_or line i 0 in
    let rest = drop (suc i) line in
    let last : (length rest == 0) ≡ (i + 1 == length line) = left_over i (length line) (length rest) h (length-drop (suc i) line) in
    let one : i + 1 ≡ suc i = omega arith in
    ap (λ (s : List ℕ). columns_from place (i + 1) s) (drop-cons line i 0 h)
    ∙ ap (λ (x : Bool). column_part (i + 1) (kept place b x) ++ columns_from (place_after place b) ((i + 1) + 1) rest) last
    ∙ ap (λ (k : ℕ). column_part (i + 1) (kept place b (i + 1 == length line)) ++ columns_from (place_after place b) ((i + 1) + 1) (drop k line)) (sym one)

pub plain_text : (place : Place) (line : List ℕ) (i : ℕ) → i < length line → 42 ≤ get_or line i 0 → get_or line i 0 ≤ 96 → get_or line i 0 ≢ 59
    → text_from place (drop i line) ≡ get_or line i 0 ∷ text_from place (drop (i + 1) line)
plain_text place line i h low high other =
    let b = get_or line i 0 in
    let rest = text_from place (drop (i + 1) line) in
    text_step place line i h
    ∙ ap (λ (x : Option ℕ). option_to_list x ++ text_from (place_after place b) (drop (i + 1) line)) (plain_kept place b (i + 1 == length line) low high other)
    ∙ ap (λ (p : Place). b ∷ text_from p (drop (i + 1) line)) (plain_place place b low high other)

pub plain_columns : (place : Place) (line : List ℕ) (i : ℕ) → i < length line → 42 ≤ get_or line i 0 → get_or line i 0 ≤ 96 → get_or line i 0 ≢ 59
    → columns_from place (i + 1) (drop i line) ≡ (i + 1) ∷ columns_from place ((i + 1) + 1) (drop (i + 1) line)
plain_columns place line i h low high other =
    let b = get_or line i 0 in
    columns_step place line i h
    ∙ ap (λ (x : Option ℕ). column_part (i + 1) x ++ columns_from (place_after place b) ((i + 1) + 1) (drop (i + 1) line))
    (plain_kept place b (i + 1 == length line) low high other)
    ∙ ap (λ (p : Place). (i + 1) ∷ columns_from p ((i + 1) + 1) (drop (i + 1) line)) (plain_place place b low high other)

pub blank_text : (place : Place) (line : List ℕ) (i : ℕ) → i < length line → kept place (get_or line i 0) (i + 1 == length line) ≡ None
    → text_from place (drop i line) ≡ text_from place (drop (i + 1) line)
blank_text place line i h none =
    let b = get_or line i 0 in
    text_step place line i h
    ∙ ap (λ (x : Option ℕ). option_to_list x ++ text_from (place_after place b) (drop (i + 1) line)) none
    ∙ ap (λ (p : Place). text_from p (drop (i + 1) line)) (blank_place place b (i + 1 == length line) none)

pub blank_columns : (place : Place) (line : List ℕ) (i : ℕ) → i < length line → kept place (get_or line i 0) (i + 1 == length line) ≡ None
    → columns_from place (i + 1) (drop i line) ≡ columns_from place ((i + 1) + 1) (drop (i + 1) line)
blank_columns place line i h none =
    let b = get_or line i 0 in
    columns_step place line i h
    ∙ ap (λ (x : Option ℕ). column_part (i + 1) x ++ columns_from (place_after place b) ((i + 1) + 1) (drop (i + 1) line)) none
    ∙ ap (λ (p : Place). columns_from p ((i + 1) + 1) (drop (i + 1) line)) (blank_place place b (i + 1 == length line) none)

pub ruleset one_byte = (text_step, columns_step, plain_text, plain_columns, blank_text, blank_columns, take_more_set)

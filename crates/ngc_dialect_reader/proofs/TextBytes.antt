-- One byte of a line's text.
use Rattle.std.proofs.Common.{◌≡◌, ℕ, suc, ◌+◌, ◌<◌, ◌-◌, Bool, false, Option, Some, None, refl, List, [], ◌∷◌, ◌++◌, length, drop, get_or, ap, sym, ◌∙◌, arith}
use Rattle.std.specs.Prelude.{◌==◌, ◌&&◌, if◌then◌else◌}
use Rattle.std.specs.Option.{option_to_list, is_some}
use Rattle.std.proofs.Math.Seq.{drop-cons}
use Rattle.std.proofs.lemmas.List.{append_assoc, length-drop}
use Rattle.std.proofs.lemmas.Bool.Decides.{nat_tests}
use Rattle.ngc_dialect_reader.specs.declared.text.Place.{Place}
use Rattle.ngc_dialect_reader.specs.declared.text.Place.TheVariants.{Outside}
use Rattle.ngc_dialect_reader.specs.declared.fault.LineFault.{LineFault}
use Rattle.ngc_dialect_reader.specs.declared.fault.Cause.TheVariants as causes
use Rattle.ngc_dialect_reader.specs.Text.{kept, place_after, text_from, column_from, text_fault, is_control, is_nested, opened_after}

left_over : (i n m : ℕ) → i < n → m ≡ n - suc i → (m == 0) ≡ (i + 1 == n)
left_over i n m h e = grind (arith, nat_tests)

pub text_step : (place : Place) (line : List ℕ) (i : ℕ) → i < length line → text_from place (drop i line) ≡
    option_to_list (kept place (get_or line i 0) (i + 1 == length line)) ++ text_from (place_after place (get_or line i 0)) (drop (i + 1) line)
text_step place line i h =
    let b = get_or line i 0 in
    let rest = drop (suc i) line in
    let last : (length rest == 0) ≡ (i + 1 == length line) = left_over i (length line) (length rest) h (length-drop (suc i) line) in
    let one : i + 1 ≡ suc i = omega arith in
    ap (λ (s : List ℕ). text_from place s) (drop-cons line i 0 h)
    ∙ ap (λ (x : Bool). option_to_list (kept place b x) ++ text_from (place_after place b) rest) last
    ∙ ap (λ (k : ℕ). option_to_list (kept place b (i + 1 == length line)) ++ text_from (place_after place b) (drop k line)) (sym one)

pub column_step : (place : Place) (line : List ℕ) (left i : ℕ) → i < length line → column_from place (i + 1) left (drop i line) ≡
    (if is_some (kept place (get_or line i 0) (i + 1 == length line)) && (length (text_from place (drop i line)) == left)
    then i + 1 else column_from (place_after place (get_or line i 0)) ((i + 1) + 1) left (drop (i + 1) line))
column_step place line left i h =
    let b = get_or line i 0 in
    let rest = drop (suc i) line in
    let last : (length rest == 0) ≡ (i + 1 == length line) = left_over i (length line) (length rest) h (length-drop (suc i) line) in
    let one : i + 1 ≡ suc i = omega arith in
    ap (λ (s : List ℕ). column_from place (i + 1) left s) (drop-cons line i 0 h)
    ∙ ap (λ (x : Bool). if is_some (kept place b x) && (length (text_from place (b ∷ rest)) == left) then i + 1 else column_from (place_after place b) ((i + 1) + 1) left rest) last
    ∙ ap (λ (s : List ℕ). if is_some (kept place b (i + 1 == length line)) && (length (text_from place s) == left) then i + 1 else column_from (place_after place b) ((i + 1) + 1) left rest) (sym (drop-cons line i 0 h))
    ∙ ap (λ (k : ℕ). if is_some (kept place b (i + 1 == length line)) && (length (text_from place (drop i line)) == left) then i + 1 else column_from (place_after place b) ((i + 1) + 1) left (drop k line)) (sym one)

pub fault_step : (closed : Bool) (place : Place) (opened : ℕ) (line : List ℕ) (i : ℕ) → i < length line → text_fault closed place opened (i + 1) (drop i line) ≡
    (if is_control (get_or line i 0) (i + 1 == length line) then Some (record { cause = causes.ControlCharacter; column = i + 1 }) else (
    if is_nested place (get_or line i 0) then Some (record { cause = causes.CommentInComment; column = i + 1 }) else
    text_fault closed (place_after place (get_or line i 0)) (opened_after place opened (i + 1)) ((i + 1) + 1) (drop (i + 1) line)))
fault_step closed place opened line i h =
    let b = get_or line i 0 in
    let rest = drop (suc i) line in
    let last : (length rest == 0) ≡ (i + 1 == length line) = left_over i (length line) (length rest) h (length-drop (suc i) line) in
    let one : i + 1 ≡ suc i = omega arith in
    ap (λ (s : List ℕ). text_fault closed place opened (i + 1) s) (drop-cons line i 0 h)
    ∙ ap (λ (x : Bool). tested b rest x) last
    ∙ ap (λ (k : ℕ). tested b (drop k line) (i + 1 == length line)) (sym one) where
      tested : ℕ → List ℕ → Bool → Option LineFault
      tested b rest x = if is_control b x then Some (record { cause = causes.ControlCharacter; column = i + 1 }) else (
          if is_nested place b then Some (record { cause = causes.CommentInComment; column = i + 1 }) else
          text_fault closed (place_after place b) (opened_after place opened (i + 1)) ((i + 1) + 1) rest)

-- a byte that stays in the text as it is
pub staying_text : (line : List ℕ) (i : ℕ) → i < length line → ((last : Bool) → kept Outside (get_or line i 0) last ≡ Some (get_or line i 0))
    → place_after Outside (get_or line i 0) ≡ Outside → (xs : List ℕ) →
    (xs ++ get_or line i 0 ∷ []) ++ text_from Outside (drop (i + 1) line) ≡ xs ++ text_from Outside (drop i line)
staying_text line i h k p xs =
    let b = get_or line i 0 in
    let step : text_from Outside (drop i line) ≡ b ∷ text_from Outside (drop (i + 1) line) =
    text_step Outside line i h ∙ rw (k (i + 1 == length line), p) refl in
    append_assoc xs (b ∷ []) (text_from Outside (drop (i + 1) line)) ∙ ap (λ (t : List ℕ). xs ++ t) (sym step)

-- a byte that adds nothing to the text
pub skipped_text : (line : List ℕ) (i : ℕ) → i < length line → ((last : Bool) → kept Outside (get_or line i 0) last ≡ None)
    → place_after Outside (get_or line i 0) ≡ Outside → (xs : List ℕ) → xs ++ text_from Outside (drop (i + 1) line) ≡ xs ++ text_from Outside (drop i line)
skipped_text line i h k p xs =
    let step : text_from Outside (drop i line) ≡ text_from Outside (drop (i + 1) line) = text_step Outside line i h ∙ rw (k (i + 1 == length line), p) refl in
    ap (λ (t : List ℕ). xs ++ t) (sym step)

-- where the last comment began counts only within it
unopened : (closed : Bool) (a b column : ℕ) (s : List ℕ) → text_fault closed Outside a column s ≡ text_fault closed Outside b column s
unopened closed a b column [] = refl
unopened closed a b column (x ∷ s) = refl

pub visible_fault : (line : List ℕ) (i : ℕ) → i < length line → ((last : Bool) → is_control (get_or line i 0) last ≡ false)
    → place_after Outside (get_or line i 0) ≡ Outside → (closed : Bool) (opened : ℕ) →
    text_fault closed Outside opened ((i + 1) + 1) (drop (i + 1) line) ≡ text_fault closed Outside opened (i + 1) (drop i line)
visible_fault line i h v p closed opened =
    let step : text_fault closed Outside opened (i + 1) (drop i line) ≡ text_fault closed Outside (i + 1) ((i + 1) + 1) (drop (i + 1) line) =
    fault_step closed Outside opened line i h ∙ rw (v (i + 1 == length line), p) refl in
    unopened closed opened (i + 1) ((i + 1) + 1) (drop (i + 1) line) ∙ sym step

pub ruleset text_steps = (text_step, column_step, fault_step)

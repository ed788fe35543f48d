-- The text of lines is a text with these lines.
use Rattle.std.proofs.Common.{◌≡◌, ℕ, suc, ◌+◌, ◌≤◌, ℤ, ap, Bool, true, false, None, List, [], ◌∷◌, length, map}
use Rattle.std.proofs.Common.{Result, Ok, Err, refl, ◌∙◌, arith}
use Rattle.std.proofs.lemmas.List.Sums.{take_while-cons}
use Rattle.std.proofs.lemmas.Bool.{and_parts, leb-true, lt-leb}
use Rattle.std.proofs.lemmas.Bool.Decides.{nat_tests}
use Rattle.std.specs.Prelude.{◌==◌, ◌&&◌, nat_le, is_ok, not, take_while, if◌then◌else◌}
use Rattle.std.specs.List.{AllByRecursion, list_all}
use Rattle.ngc_line_reader.specs.declared.fault.LineFault.{LineFault}
use Rattle.ngc_line_reader.specs.declared.letter.Letter.{Letter}
use Rattle.ngc_line_reader.specs.Letter.{letter_byte}
use Rattle.ngc_line_reader.specs.Text.{text}
use Rattle.ngc_line_reader.specs.Grammar.{items_text}
use Rattle.ngc_line_reader.specs.Load.{HasNoLineFeed}
use Rattle.ngc_line_reader.specs.Program.{Line, split_lines, numbered, is_percent_text, is_percent_line, is_blank_line, is_marked, without_mark, read_lines}
use Rattle.ngc_line_reader.specs.ProgramText.{refusal_in, fault_of, first_fault, fault_or, text_of_lines}
use Rattle.ngc_line_reader.specs.ReadLine.{line_read}
use Rattle.ngc_line_reader.specs.ScanLine.{ParsedLine}
use Rattle.ngc_line_reader.proofs.Feeds.{split_parts, feedless_both}
use Rattle.ngc_line_reader.proofs.LetterLemmas.{letter_bounds}
use Rattle.ngc_plain_text.specs.Text.{word_text, line_text, program_text}
use Rattle.ngc_plain_text.specs.Limits.{AreValues, is_short}
use Rattle.ngc_plain_text.specs.Laws.{TextsReadBack}
use Rattle.ngc_plain_text.proofs.LineTexts.{AreWordBytes, word_is_bytes, items_of, text_of_line, line_reads_back}

-- ---- the lines are split at their line feeds

feedless_word : (bs : List ℕ) → AreWordBytes bs → HasNoLineFeed bs
feedless_word [] h = tt
feedless_word (b ∷ bs) h = ((λ e. omega (arith, e, h.0.0)), feedless_word bs h.1)

feedless_line : (words : List (Letter × ℤ)) → AreValues words → HasNoLineFeed (line_text words)
feedless_line [] h = tt
feedless_line (w ∷ []) h = feedless_word (word_text w) (word_is_bytes w h.0)
feedless_line (w ∷ v ∷ words) h =
    feedless_both (word_text w) (32 ∷ line_text (v ∷ words)) (feedless_word (word_text w) (word_is_bytes w h.0))
    ((λ e. omega (arith, e)), feedless_line (v ∷ words) h.1)

split_text : (lines : List (List (Letter × ℤ))) → AllByRecursion AreValues lines → split_lines (program_text lines) ≡ map line_text lines
split_text [] h = refl
split_text (words ∷ lines) h =
    split_parts.ends (line_text words) (program_text lines) (feedless_line words h.0)
    ∙ ap (λ (ls : List (List ℕ)). line_text words ∷ ls) (split_text lines h.1)

-- ---- each of them is read

-- a line that is read, and no percent line
abbrev pub IsPlain : Line → Type 0
IsPlain line = (is_percent_line line ≡ false) × (is_ok (line_read line.bytes) ≡ true)

no_percent : (words : List (Letter × ℤ)) → is_percent_text (items_text (items_of words)) ≡ false
no_percent [] = refl
no_percent (w ∷ words) =
    let other : (letter_byte w.0 == 37) ≡ false = differs (letter_byte w.0) (letter_bounds w.0) in
    rw other refl where
      differs : (b : ℕ) → 65 ≤ b → (b == 37) ≡ false
      differs b h = grind (arith, nat_tests)

and_false : (a b : Bool) → b ≡ false → (a && b) ≡ false
and_false true b e = e
and_false false b e = refl

line_is_plain : (number : ℕ) (words : List (Letter × ℤ)) → AreValues words → is_short words ≡ true → IsPlain (record { number = number; bytes = line_text words })
line_is_plain number words values short = (
  and_false (nat_le (length (line_text words)) 256) (is_percent_text (text (line_text words)))
      (ap is_percent_text (text_of_line words values) ∙ no_percent words),
  (line_reads_back words values short).accepted,
)

all_plain : (number : ℕ) (lines : List (List (Letter × ℤ))) → AllByRecursion AreValues lines → list_all is_short lines ≡ true →
    AllByRecursion IsPlain (numbered number (map line_text lines))
all_plain number [] values short = tt
all_plain number (words ∷ lines) values short =
    let parts = and_parts (is_short words) (list_all is_short lines) short in
    (line_is_plain number words values.0 parts.0, all_plain (number + 1) lines values.1 parts.1)

-- ---- nothing marks them

unmarked : (lines : List Line) → AllByRecursion IsPlain lines → is_marked lines ≡ false
unmarked [] h = refl
unmarked (line ∷ lines) h = by_blank (is_blank_line line) (unmarked lines h.1) where
  by_blank : (b : Bool) → is_marked lines ≡ false → (if b then is_marked lines else is_percent_line line) ≡ false
  by_blank true rest = rest
  by_blank false rest = h.0.0

none_removed : (lines : List Line) → AllByRecursion IsPlain lines → without_mark lines ≡ lines
none_removed [] h = refl
none_removed (line ∷ lines) h = by_blank (is_blank_line line) (none_removed lines h.1) where
  by_blank : (b : Bool) → without_mark lines ≡ lines
      → (if b then line ∷ without_mark lines else (if is_percent_line line then lines else line ∷ lines)) ≡ line ∷ lines
  by_blank true rest = ap (λ (ls : List Line). line ∷ ls) rest
  by_blank false rest = ap (λ (b : Bool). if b then lines else line ∷ lines) h.0.0

all_taken : (lines : List Line) → AllByRecursion IsPlain lines → take_while (λ line. not (is_percent_line line)) lines ≡ lines
all_taken [] h = refl
all_taken (line ∷ lines) h =
    rw (take_while-cons (λ line. not (is_percent_line line)) line lines, h.0.0) (ap (λ (ls : List Line). line ∷ ls) (all_taken lines h.1))

all_read : (lines : List Line) → AllByRecursion IsPlain lines → read_lines lines ≡ lines
all_read lines h = ap (take_while (λ line. not (is_percent_line line))) (none_removed lines h) ∙ all_taken lines h

-- ---- none has a fault

not_refused : (number : ℕ) (x : Result ParsedLine LineFault) → is_ok x ≡ true → refusal_in number x ≡ None
not_refused number (Ok said) h = refl
not_refused number (Err fault) h = absurd (cc h)

no_fault : (before : ℕ) (lines : List Line) → AllByRecursion IsPlain lines → before + length lines ≤ 100000 → first_fault before lines ≡ None
no_fault before [] h few = refl
no_fault before (line ∷ lines) h few =
    let room : nat_le 100000 before ≡ false = lt-leb _ _ (omega (arith, few)) in
    let here : fault_of before line ≡ None = rw room (not_refused line.number (line_read line.bytes) h.0.1) in
    rw here (no_fault (before + 1) lines h.1 (omega (arith, few)))

numbers_count : (n : ℕ) (lines : List (List ℕ)) → length (numbered n lines) ≡ length lines
numbers_count n [] = refl
numbers_count n (bytes ∷ lines) = ap suc (numbers_count (n + 1) lines)

lines_count : (lines : List (List (Letter × ℤ))) → length (map line_text lines) ≡ length lines
lines_count [] = refl
lines_count (words ∷ lines) = ap suc (lines_count lines)

outcome_of : (lines : List Line) → AllByRecursion IsPlain lines → length lines ≤ 100000 →
    fault_or (first_fault 0 (read_lines lines)) (text_of_lines lines) ≡ Ok (record { lines = lines; marked = false })
outcome_of lines h few =
    let read = all_read lines h in
    let none : first_fault 0 (read_lines lines) ≡ None = ap (first_fault 0) read ∙ no_fault 0 lines h (omega (arith, few)) in
    rw (none, unmarked lines h, read) refl

pub texts_read_back : TextsReadBack
texts_read_back lines values few =
    let parts = and_parts (nat_le (length lines) 100000) (list_all is_short lines) few in
    let all = all_plain 1 lines values parts.1 in
    let count : length (numbered 1 (map line_text lines)) ≤ 100000 = omega (arith, numbers_count 1 (map line_text lines), lines_count lines, leb-true _ _ parts.0) in
    ap (λ (ls : List (List ℕ)). fault_or (first_fault 0 (read_lines (numbered 1 ls))) (text_of_lines (numbered 1 ls))) (split_text lines values)
    ∙ outcome_of (numbered 1 (map line_text lines)) all count

-- Words that have no line breaks are the lines of their text.
use Rattle.std.proofs.Common.{◌≡◌, ◌∙◌, ◌≤◌, ◌-◌, ◌==◌, ◌||◌, ℕ, suc, List, [], ◌∷◌, ◌++◌, Bool, false, if◌then◌else◌, length, map, take, append_assoc, ap, arith, codes, refl}
use Rattle.std.specs.List.{list_any, onto_first, slice_index, slice_split}
use Rattle.std.specs.Str.Lines.{lines, lines_of_parts, strip_carriage_return}
use Rattle.std.proofs.lemmas.Bool.{or_parts}
use Rattle.std.proofs.lemmas.List.Splits.{length-slice_split, slice_split-cons_no}
use Rattle.ngc_page.specs.JobCalls.{has_break, is_break, lines_text}

-- a word and a line feed are a part of their own
split_word : (word rest : List ℕ) → has_break word ≡ false
    → slice_split (λ b. b == 10) (word ++ (10 ∷ rest)) ≡ word ∷ slice_split (λ b. b == 10) rest
split_word [] rest plain = refl
split_word (b ∷ word) rest plain =
    slice_split-cons_no (λ b. b == 10) b (word ++ (10 ∷ rest)) (or_parts (b == 10) (b == 13) (or_parts (is_break b) (has_break word) plain).0).0
    ∙ ap (onto_first b) (split_word word rest (or_parts (is_break b) (has_break word) plain).1)

-- its last byte is no carriage return
last_index : (b c : ℕ) (word : List ℕ) → length (b ∷ c ∷ word) - 1 ≡ suc (length (c ∷ word) - 1)
last_index b c word = omega arith

ends_plain : (word : List ℕ) → has_break word ≡ false → (slice_index word (length word - 1) == 13) ≡ false
ends_plain [] plain = refl
ends_plain (b ∷ []) plain = (or_parts (b == 10) (b == 13) (or_parts (is_break b) false plain).0).1
ends_plain (b ∷ c ∷ word) plain =
    ap (λ (i : ℕ). slice_index (b ∷ c ∷ word) i == 13) (last_index b c word)
    ∙ ends_plain (c ∷ word) (or_parts (is_break b) (has_break (c ∷ word)) plain).1

unstripped : (word : List ℕ) → has_break word ≡ false → strip_carriage_return word ≡ word
unstripped word plain = ap (λ (ends : Bool). if ends then take (length word - 1) word else word) (ends_plain word plain)

first_line : (part : List ℕ) (parts : List (List ℕ)) → 1 ≤ length parts
    → lines_of_parts (part ∷ parts) ≡ strip_carriage_return part ∷ lines_of_parts parts
first_line part [] some = absurd (omega (arith, some))
first_line part (next ∷ parts) some = refl

some_parts : (text : List ℕ) → 1 ≤ length (slice_split (λ b. b == 10) text)
some_parts text = omega (arith, length-slice_split (λ b. b == 10) text)

pub words_same : (words : List (List ℕ)) → list_any has_break words ≡ false → lines (lines_text words) ≡ words
words_same [] plain = refl
words_same (word ∷ words) plain =
    let alone : has_break word ≡ false = (or_parts (has_break word) (list_any has_break words) plain).0 in
    let others : list_any has_break words ≡ false = (or_parts (has_break word) (list_any has_break words) plain).1 in
    ap lines (append_assoc word (codes "\n") (lines_text words))
    ∙ (ap lines_of_parts (split_word word (lines_text words) alone)
    ∙ (first_line word (slice_split (λ b. b == 10) (lines_text words)) (some_parts (lines_text words))
    ∙ (ap (λ (w : List ℕ). w ∷ lines (lines_text words)) (unstripped word alone)
    ∙ ap (λ (ws : List (List ℕ)). word ∷ ws) (words_same words others))))

-- a test of what a function makes of each element
pub any_of_map : {X Y : Type 0} (test : Y → Bool) (f : X → Y) (xs : List X) → list_any test (map f xs) ≡ list_any (λ x. test (f x)) xs
any_of_map test f [] = refl
any_of_map test f (x ∷ xs) = ap (λ rest. test (f x) || rest) (any_of_map test f xs)

-- Words whose values are numbers: those of a line without settings that has a token for each word.
use Rattle.std.proofs.Common.{◌≡◌, ℕ, suc, ◌+◌, ◌≤◌, ℤ, List, [], ◌∷◌, ◌++◌, length, Option, Some, None, refl, ap, sym, ◌∙◌, length-append, append_assoc, arith, take, slice_range, ◌-◌}
use Rattle.std.proofs.Math.Seq.{drop-append_seam}
use Rattle.std.proofs.lemmas.List.{append-nil}
use Rattle.ngc_line_reader.specs.declared.line.RawWord.{RawWord}
use Rattle.ngc_line_reader.specs.declared.token.Token.{Token}
use Rattle.ngc_line_reader.specs.declared.word.Word.{Word}
use Rattle.ngc_line_reader.specs.declared.letter.Letter.{Letter}
use Rattle.ngc_line_reader.specs.Grammar.{Numeral, Real, number, parameter, bracket, Rest, Item, word, setting, comment, items_text}
use Rattle.ngc_line_reader.specs.Held.{token_count, item_tokens, all_tokens, words_from, settings_from}
use Rattle.ngc_line_reader.specs.Kept.{number_in, numbered_words}
use Rattle.ngc_line_reader.specs.Tokens.{symbols_of, rest_symbols, tokens_of}
use Rattle.ngc_line_reader.specs.Words.{pairs_of, with_number, number_words}
use Rattle.ngc_line_reader.proofs.TokenLemmas.{length-tokens_of}

some_symbol : (v : Real) → 1 ≤ length (symbols_of v)
some_symbol (number n) = omega arith
some_symbol (parameter index) = omega arith
some_symbol (bracket first rest) = omega arith

two_of_parameter : (index : Real) → 2 ≤ length (symbols_of (parameter index))
two_of_parameter index = omega (arith, some_symbol index)

two_of_bracket : (first : Real) (rest : Rest) → 2 ≤ length (symbols_of (bracket first rest))
two_of_bracket first rest = omega (arith, some_symbol first, length-append (symbols_of first) (rest_symbols rest))

-- after a word's tokens come those of the following items
behind_word : (place : ℕ → ℕ) (letter : Letter) (value : Real) (items : List Item) (end : List ℕ)
    → length (all_tokens place (word letter value ∷ items) end) ≡ length (symbols_of value) + length (all_tokens place items end)
behind_word place letter value items end =
    length-append (tokens_of place value (items_text items ++ end)) (all_tokens place items end)
    ∙ ap (λ n. n + length (all_tokens place items end)) (length-tokens_of place value (items_text items ++ end))

-- no more words than tokens
few_words : (place : ℕ → ℕ) (first : ℕ) (items : List Item) (end : List ℕ) → length (words_from place first items end) ≤ length (all_tokens place items end)
few_words place first [] end = omega arith
few_words place first (word letter value ∷ items) end =
    omega (arith, behind_word place letter value items end, some_symbol value, few_words place (first + token_count (word letter value)) items end)
few_words place first (setting index value ∷ items) end =
    omega (
      arith,
      few_words place (first + token_count (setting index value)) items end,
      length-append (item_tokens place (setting index value) (items_text items ++ end)) (all_tokens place items end),
    )
few_words place first (comment bytes ∷ items) end = few_words place first items end

pub numbered_are : (place : ℕ → ℕ) (first : ℕ) (items : List Item) (end : List ℕ) → length (settings_from place first items end) ≡ 0
    → length (all_tokens place items end) ≡ length (words_from place first items end)
    → number_words items ≡ Some (pairs_of (numbered_words (words_from place first items end) (all_tokens place items end)))
numbered_are place first [] end none same = refl
numbered_are place first (word letter (number n) ∷ items) end none same =
    ap (with_number letter (number n)) (numbered_are place (first + 1) items end none (omega (arith, same)))
numbered_are place first (word letter (parameter index) ∷ items) end none same =
    absurd (omega (
      arith,
      same,
      behind_word place letter (parameter index) items end,
      two_of_parameter index,
      few_words place (first + token_count (word letter (parameter index))) items end,
    ))
numbered_are place first (word letter (bracket v rest) ∷ items) end none same =
    absurd (omega (
      arith,
      same,
      behind_word place letter (bracket v rest) items end,
      two_of_bracket v rest,
      few_words place (first + token_count (word letter (bracket v rest))) items end,
    ))
numbered_are place first (setting index value ∷ items) end none same = absurd (omega (arith, none))
numbered_are place first (comment bytes ∷ items) end none same = numbered_are place first items end none same

-- after a number the rest decides
by_rest : {A : Type 0} (letter : Letter) (n : Numeral) (x : Option (List (Letter × ℤ))) (ws : List (Letter × ℤ)) → ((xs : List (Letter × ℤ)) → x ≡ Some xs → A)
    → with_number letter (number n) x ≡ Some ws → A
by_rest letter n None ws further none = absurd (cc none)
by_rest letter n (Some xs) ws further some = further xs refl

pub are_numbered : (place : ℕ → ℕ) (first : ℕ) (items : List Item) (end : List ℕ) (ws : List (Letter × ℤ)) → number_words items ≡ Some ws
    → (length (settings_from place first items end) ≡ 0) × (length (all_tokens place items end) ≡ length (words_from place first items end))
are_numbered place first [] end ws is = (refl, refl)
are_numbered place first (word letter (number n) ∷ items) end ws is =
    let h = by_rest letter n (number_words items) ws (λ xs some. are_numbered place (first + 1) items end xs some) is in
    (h.0, ap suc h.1)
are_numbered place first (word letter (parameter index) ∷ items) end ws is = absurd (cc is)
are_numbered place first (word letter (bracket v rest) ∷ items) end ws is = absurd (cc is)
are_numbered place first (setting index value ∷ items) end ws is = absurd (cc is)
are_numbered place first (comment bytes ∷ items) end ws is = are_numbered place first items end ws is

-- words with their numbers, in order
abbrev pub numbered_after : List Word → List RawWord → List Token → List Word
numbered_after found [] ts = found
numbered_after found (w ∷ ws) [] = found
numbered_after found (w ∷ ws) (t ∷ ts) = numbered_after (found ++ (record { letter = w.letter; value = number_in t.symbol } ∷ [])) ws ts

pub all_numbered : (found : List Word) (ws : List RawWord) (ts : List Token) → numbered_after found ws ts ≡ found ++ numbered_words ws ts
all_numbered found [] ts = sym (append-nil found)
all_numbered found (w ∷ ws) [] = sym (append-nil found)
all_numbered found (w ∷ ws) (t ∷ ts) =
    all_numbered (found ++ (record { letter = w.letter; value = number_in t.symbol } ∷ [])) ws ts
    ∙ append_assoc found (record { letter = w.letter; value = number_in t.symbol } ∷ []) (numbered_words ws ts)

numbered_count : (ws : List RawWord) (ts : List Token) → length ts ≡ length ws → length (numbered_words ws ts) ≡ length ws
numbered_count [] ts same = refl
numbered_count (w ∷ ws) [] same = absurd (omega (arith, same))
numbered_count (w ∷ ws) (t ∷ ts) same = ap suc (numbered_count ws ts (omega (arith, same)))

whole : {X : Type 0} (xs : List X) → take (length xs) xs ≡ xs
whole [] = refl
whole (x ∷ xs) = ap (λ l. x ∷ l) (whole xs)

-- the last entries, by their position
pub range_behind : {X : Type 0} (old new : List X) (first count : ℕ) → first ≡ length old → count ≡ length new → slice_range (old ++ new) first (first + count) ≡ new
range_behind old new first count at few =
    let same : first + count - first ≡ length new = omega arith in
    rw (same, at, drop-append_seam old new) (whole new)

-- words that were pushed
pub pushed_numbers : (old after : List Word) (ws : List RawWord) (ts : List Token) (first count : ℕ) → after ≡ old ++ numbered_words ws ts → first ≡ length old
    → count ≡ length ws → length ts ≡ length ws → (first + count ≤ length after) × (slice_range after first (first + count) ≡ numbered_words ws ts)
pushed_numbers old after ws ts first count is at few same =
    let n : count ≡ length (numbered_words ws ts) = few ∙ sym (numbered_count ws ts same) in
    let total : length after ≡ length old + length (numbered_words ws ts) = ap length is ∙ length-append old (numbered_words ws ts) in
    (omega arith, ap (λ l. slice_range l first (first + count)) is ∙ range_behind old (numbered_words ws ts) first count at n)

-- The text of words from the left, and lengths of texts.
use Rattle.std.proofs.Common.{◌≡◌, ℕ, suc, ◌+◌, ◌-◌, ◌/◌, ◌%◌, ◌≤◌, ℤ, ap, sym, ◌∙◌, refl, Bool, true, List, [], ◌∷◌, ◌++◌, length, take, drop, flat_map, get_or, arith, subst}
use Rattle.std.proofs.lemmas.List.{length-take, length-append, length-map, take_all, append-nil}
use Rattle.std.proofs.lemmas.List.Sums.{sum_by-cons}
use Rattle.std.proofs.lemmas.List.Concat.{flat_map-cons}
use Rattle.std.proofs.lemmas.Bool.{le-leb}
use Rattle.std.proofs.lemmas.Bool.Decides.{nat_tests}
use Rattle.std.specs.List.{sum_by}
use Rattle.std.specs.Prelude.{decimal, unsigned_abs, nat_le, ◌&&◌}
use Rattle.ngc_text.specs.Millimetres.{decimals, kept, number_text, size_text, sign_text, length_text}
use Rattle.ngc_line_reader.specs.declared.word.Word.{Word}
use Rattle.ngc_line_reader.specs.Words.{pair_of, pairs_of}
use Rattle.ngc_plain_text.specs.Text.{word_text, next_word_text, line_text}
use Rattle.ngc_plain_text.specs.Limits.{is_short, AreValues}

-- ---- the words of a line

all_words : (w : Word) (ws : List Word) → word_text (pair_of w) ++ flat_map next_word_text ws ≡ line_text (pairs_of (w ∷ ws))
all_words w [] = append-nil (word_text (pair_of w))
all_words w (v ∷ ws) =
    ap (λ (t : List ℕ). word_text (pair_of w) ++ t) (flat_map-cons next_word_text v ws)
    ∙ ap (λ (t : List ℕ). word_text (pair_of w) ++ (32 ∷ t)) (all_words v ws)

-- the first word, and the others
pub words_said : (ws : List Word) (first : Word) → 1 ≤ length ws → first ≡ get_or ws 0 first →
    word_text (pair_of first) ++ flat_map next_word_text (take (length ws - 1) (drop 1 ws)) ≡ line_text (pairs_of ws)
words_said [] first some is = absurd (omega (arith, some))
words_said (w ∷ ws) first some is =
    let rest : take (length (w ∷ ws) - 1) ws ≡ ws = take_all (length (w ∷ ws) - 1) ws (omega arith) in
    ap (λ (v : Word). word_text (pair_of v) ++ flat_map next_word_text (take (length (w ∷ ws) - 1) ws)) is
    ∙ ap (λ (vs : List Word). word_text (pair_of w) ++ flat_map next_word_text vs) rest ∙ all_words w ws

-- ---- a value

decimals_counted : (n k : ℕ) → k ≡ kept n → k ≤ 7 → length (take (kept n) (decimals n)) ≡ k
decimals_counted n k e few = omega (arith, length-take (kept n) (decimals n), e, few)

pub value_counted : (z : ℤ) (n s d k : ℕ) → n ≡ unsigned_abs z → s ≡ length (sign_text z) → d ≡ length (decimal (n / 1000000)) → k ≡ kept (n % 1000000) → k ≤ 7
    → s + d + k ≡ length (length_text z)
unfolding length_text number_text
value_counted z n s d k is e f g few =
    let outer : length (length_text z) ≡ length (sign_text z) + length (size_text n) =
    length-append (sign_text z) (size_text (unsigned_abs z)) ∙ ap (λ (m : ℕ). length (sign_text z) + length (size_text m)) (sym is) in
    let inner = length-append (decimal (n / 1000000)) (take (kept (n % 1000000)) (decimals (n % 1000000))) in
    omega (arith, outer, inner, decimals_counted (n % 1000000) k g few, e, f)

-- ---- a line

-- the number of bytes of a word with a blank
abbrev pub spaced : Word → ℕ
spaced w = 2 + length (length_text w.value)

spaced_line : (w : Word) (ws : List Word) → sum_by spaced (w ∷ ws) ≡ suc (length (line_text (pairs_of (w ∷ ws))))
spaced_line w [] = omega (arith, sum_by-cons spaced w [])
spaced_line w (v ∷ ws) =
    let rest = spaced_line v ws in
    let joined = length-append (word_text (pair_of w)) (32 ∷ line_text (pairs_of (v ∷ ws))) in
    omega (arith, sum_by-cons spaced w (v ∷ ws), rest, joined)

tested : (n m : ℕ) → n ≡ suc m → nat_le n 257 ≡ nat_le m 256
tested n m e = grind (arith, nat_tests, e)

-- the limit of bytes
bytes_tested : (ws : List Word) → nat_le (sum_by spaced ws) 257 ≡ nat_le (length (line_text (pairs_of ws))) 256
bytes_tested [] = refl
bytes_tested (w ∷ ws) = tested (sum_by spaced (w ∷ ws)) (length (line_text (pairs_of (w ∷ ws)))) (spaced_line w ws)

-- both limits, once all words are counted
pub is_tested : (ws : List Word) (i n : ℕ) → length ws ≤ i → n ≡ sum_by spaced (take i ws) → length ws ≤ 64 → nat_le n 257 ≡ is_short (pairs_of ws)
is_tested ws i n ends e few =
    let count : length (pairs_of ws) ≡ length ws = length-map ws pair_of in
    let words : nat_le (length (pairs_of ws)) 64 ≡ true = le-leb _ _ (omega (arith, count, few)) in
    ap (λ (k : ℕ). nat_le k 257) (e ∙ ap (sum_by spaced) (take_all i ws ends)) ∙ bytes_tested ws
    ∙ sym (ap (λ (b : Bool). b && nat_le (length (line_text (pairs_of ws))) 256) words)

-- ---- values in range

pub all_values : (ws : List Word) (i : ℕ) → length ws ≤ i → AreValues (pairs_of (take i ws)) → AreValues (pairs_of ws)
all_values ws i ends h = subst (λ (vs : List Word). AreValues (pairs_of vs)) (take_all i ws ends) h

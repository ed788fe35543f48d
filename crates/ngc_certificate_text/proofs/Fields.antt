-- Fields between single spaces, and lines between line feeds.
use Rattle.std.proofs.Common.{◌≡◌, ℕ, ◌<◌, ◌^◌, ap, subst, Bool, true, false, Option, Some, None, List, [], ◌∷◌, ◌++◌, refl, sym, ◌∙◌, arith}
use Rattle.std.specs.Prelude.{ℤ, map, ◌==◌, if◌then◌else◌}
use Rattle.std.specs.Fmt.{signed_decimal}
use Rattle.std.specs.Int.Signed.{mag}
use Rattle.std.specs.List.{list_all, slice_split, join_with_byte}
use Rattle.std.specs.Option.{option_map, option_and_then}
use Rattle.std.specs.Str.{bytes_eq}
use Rattle.std.proofs.lemmas.Bool.{and_from, and_parts}
use Rattle.std.proofs.lemmas.List.Folds.{list_all-append}
use Rattle.std.proofs.lemmas.List.Splits.{join_with_byte-slice_split}
use Rattle.std.proofs.lemmas.Slice.Eq.{bytes_eq-Decides}
use Rattle.ngc_text.proofs.SplitTexts.{lacks, split_joined}
use Rattle.ngc_certificate_text.specs.Number.{fields, number_in}
use Rattle.ngc_certificate_text.specs.Lines.{numbers_in, numbers_in_rest}
use Rattle.ngc_certificate_text.proofs.SignedNumbers.{signed_lacks, number_in-signed, number_spelled}

pub joined_split : (s : ℕ) (text : List ℕ) → join_with_byte s (slice_split (λ b. b == s) text) ≡ text
joined_split s text = join_with_byte-slice_split s text

-- ---- numbers in fields

-- the range of numbers that are written
abbrev pub AreSmall : List ℤ → Type 0
AreSmall [] = Unit {0}
AreSmall (z ∷ zs) = (mag z < 2 ^ 63) × AreSmall zs

pub numbers_in-signed : (zs : List ℤ) → AreSmall zs → numbers_in (map signed_decimal zs) ≡ Some zs
unfolding numbers_in
numbers_in-signed [] h = refl
numbers_in-signed (z ∷ zs) h = rw (number_in-signed z h.0, numbers_in-signed zs h.1) refl

-- the first number, and those after it
pub record FirstNumber (f : List ℕ) (fs : List (List ℕ)) (zs : List ℤ) : Type 0 where
  pub first : ℤ
  pub rest : List ℤ
  pub is : zs ≡ first ∷ rest
  pub first_in : number_in f ≡ Some first
  pub rest_in : numbers_in fs ≡ Some rest

first_number : (f : List ℕ) (fs : List (List ℕ)) (zs : List ℤ) (o : Option ℤ) (os : Option (List ℤ)) → number_in f ≡ o → numbers_in fs ≡ os
    → option_and_then (λ z. option_map (λ zs. z ∷ zs) os) o ≡ Some zs → FirstNumber f fs zs
first_number f fs zs None os e1 e2 h = absurd (cc h)
first_number f fs zs (Some z) None e1 e2 h = absurd (cc h)
first_number f fs zs (Some z) (Some rest) e1 e2 h = record { first = z; rest = rest; is = cc h; first_in = e1; rest_in = e2 }

pub number_first : (f : List ℕ) (fs : List (List ℕ)) (zs : List ℤ) → numbers_in (f ∷ fs) ≡ Some zs → FirstNumber f fs zs
unfolding numbers_in
number_first f fs zs h = first_number f fs zs (number_in f) (numbers_in fs) refl refl h

pub no_numbers : (zs : List ℤ) → numbers_in [] ≡ Some zs → zs ≡ []
unfolding numbers_in
no_numbers zs h = cc h

pub numbers_spelled : (fs : List (List ℕ)) (zs : List ℤ) → numbers_in fs ≡ Some zs → AreSmall zs → fs ≡ map signed_decimal zs
numbers_spelled [] zs h small = ap (map signed_decimal) (sym (no_numbers zs h))
numbers_spelled (f ∷ fs) zs h small =
    let n = number_first f fs zs h in
    let smalls : AreSmall (n.first ∷ n.rest) = subst AreSmall n.is small in
    let one = number_spelled f n.first n.first_in smalls.0 in
    let more = numbers_spelled fs n.rest n.rest_in smalls.1 in
    ap (λ (x : List ℕ). x ∷ fs) one ∙ ap (λ (xs : List (List ℕ)). signed_decimal n.first ∷ xs) more ∙ ap (map signed_decimal) (sym n.is)

pub numbers_lack : (s : ℕ) (zs : List ℤ) → s < 45 → AreSmall zs → list_all (lacks s) (map signed_decimal zs) ≡ true
numbers_lack s [] low h = refl
numbers_lack s (z ∷ zs) low h = rw (signed_lacks s z low h.0, numbers_lack s zs low h.1) refl

-- ---- words before numbers

pub same_bytes : (xs : List ℕ) → bytes_eq xs xs ≡ true
same_bytes xs = (bytes_eq-Decides xs xs).1 refl

pub bytes_same : (xs ys : List ℕ) → bytes_eq xs ys ≡ true → xs ≡ ys
bytes_same xs ys h = (bytes_eq-Decides xs ys).0 h

pub behind_words : (ws fs : List (List ℕ)) → numbers_in_rest ws (ws ++ fs) ≡ numbers_in fs
behind_words [] fs = refl
behind_words (w ∷ ws) fs = rw (same_bytes w) (behind_words ws fs)

word_first : (c : Bool) (o : Option (List ℤ)) (zs : List ℤ) → (if c then o else None) ≡ Some zs → (c ≡ true) × (o ≡ Some zs)
word_first true o zs h = (refl, h)
word_first false o zs h = absurd (cc h)

-- the fields after the words
pub record WordsFirst (ws fs : List (List ℕ)) (zs : List ℤ) : Type 0 where
  pub rest : List (List ℕ)
  pub is : fs ≡ ws ++ rest
  pub numbers : numbers_in rest ≡ Some zs

pub words_first : (ws fs : List (List ℕ)) (zs : List ℤ) → numbers_in_rest ws fs ≡ Some zs → WordsFirst ws fs zs
words_first [] fs zs h = record { rest = fs; is = refl; numbers = h }
words_first (w ∷ ws) [] zs h = absurd (cc h)
words_first (w ∷ ws) (f ∷ fs) zs h =
    let first = word_first (bytes_eq f w) (numbers_in_rest ws fs) zs h in
    let more = words_first ws fs zs first.1 in
    record { rest = more.rest; is = ap (λ (x : List ℕ). x ∷ fs) (bytes_same f w first.0) ∙ ap (λ (l : List (List ℕ)). w ∷ l) more.is; numbers = more.numbers }

-- ---- whole lines: words, and numbers after them

-- a line of words and numbers
abbrev pub line_text : List ℕ → List (List ℕ) → List ℤ → List ℕ
line_text w ws zs = join_with_byte 32 (w ∷ (ws ++ map signed_decimal zs))

pub line_fields : (w : List ℕ) (ws : List (List ℕ)) (zs : List ℤ) → list_all (lacks 32) (w ∷ ws) ≡ true → AreSmall zs
    → fields (line_text w ws zs) ≡ w ∷ (ws ++ map signed_decimal zs)
line_fields w ws zs words small =
    let parts = and_parts (lacks 32 w) (list_all (lacks 32) ws) words in
    let afterwards : list_all (lacks 32) (ws ++ map signed_decimal zs) ≡ true =
    list_all-append (lacks 32) ws (map signed_decimal zs) ∙ and_from _ _ parts.1 (numbers_lack 32 zs (omega arith) small) in
    split_joined 32 w (ws ++ map signed_decimal zs) (and_from _ _ parts.0 afterwards)

-- the numbers of a line with this text
pub line_numbers : (w : List ℕ) (ws : List (List ℕ)) (zs : List ℤ) → list_all (lacks 32) (w ∷ ws) ≡ true → AreSmall zs
    → numbers_in_rest (w ∷ ws) (fields (line_text w ws zs)) ≡ Some zs
line_numbers w ws zs words small =
    ap (numbers_in_rest (w ∷ ws)) (line_fields w ws zs words small) ∙ behind_words (w ∷ ws) (map signed_decimal zs) ∙ numbers_in-signed zs small

-- a line with these numbers after the words has this text
pub line_spelled : (w : List ℕ) (ws : List (List ℕ)) (zs : List ℤ) (line : List ℕ) → numbers_in_rest (w ∷ ws) (fields line) ≡ Some zs → AreSmall zs →
    line ≡ line_text w ws zs
line_spelled w ws zs line h small =
    let first = words_first (w ∷ ws) (fields line) zs h in
    let rest = numbers_spelled first.rest zs first.numbers small in
    sym (joined_split 32 line) ∙ ap (join_with_byte 32) (first.is ∙ ap (λ (l : List (List ℕ)). w ∷ (ws ++ l)) rest)

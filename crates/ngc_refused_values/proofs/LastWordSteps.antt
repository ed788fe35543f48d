-- The last word so far, one line further.
use Rattle.std.proofs.Common.{◌≡◌, ℕ, zero, suc, ◌+◌, ◌==◌, List, [], ◌∷◌, drop, Option, Some, None, Bool, true, false, ap, sym, ◌∙◌, refl, arith}
use Rattle.std.proofs.lemmas.Bool.{eq-eqb, ne_eqb}
use Rattle.std.specs.List.{slice_get}
use Rattle.std.specs.Option.{option_map, option_or}
use Rattle.ngc_line_reader.specs.Program.{Line}
use Rattle.ngc_line_reader.specs.ReadLine.{line_read}
use Rattle.ngc_refused_values.specs.LastWords.{last_word, word_read}
use Rattle.ngc_refused_values.specs.declared.last_words.Kind.{Kind}
use Rattle.ngc_refused_values.specs.declared.last_words.LastWord.{LastWord}

-- the facts about the line at index `i`
pub record At (lines : List Line) (i number : ℕ) (bytes : List ℕ) : Type 0 where
  pub line : Line
  pub afterwards : drop i lines ≡ line ∷ drop (i + 1) lines
  pub number_is : line.number ≡ number
  pub bytes_are : line.bytes ≡ bytes

-- the line is the first of the remaining ones
from_here : (lines : List Line) (i : ℕ) (l : Line) → slice_get lines i ≡ Some l → drop i lines ≡ l ∷ drop (suc i) lines
from_here [] i l is = cc is
from_here (x ∷ xs) zero l is = let same : x ≡ l = cc is in ap (λ (y : Line). y ∷ xs) same
from_here (x ∷ xs) (suc i) l is = from_here xs i l is

next_here : (lines : List Line) (i : ℕ) (l : Line) → slice_get lines i ≡ Some l → drop i lines ≡ l ∷ drop (i + 1) lines
next_here lines i l is =
    let one : suc i ≡ i + 1 = omega arith in
    from_here lines i l is ∙ ap (λ (n : ℕ). l ∷ drop n lines) one

pub at : (lines : List Line) (i number : ℕ) (bytes : List ℕ) → option_map (λ l. l.number) (slice_get lines i) ≡ Some number →
    option_map (λ l. l.bytes) (slice_get lines i) ≡ Some bytes → At lines i number bytes
at lines i number bytes told said = by (slice_get lines i) refl told said where
  by : (found : Option Line) → slice_get lines i ≡ found → option_map (λ l. l.number) found ≡ Some number → option_map (λ l. l.bytes) found ≡ Some bytes →
      At lines i number bytes
  by None is told said = cc
  by (Some l) is told said = record { line = l; afterwards = next_here lines i l is; number_is = cc told; bytes_are = cc said }

-- the last of three is the last of the first and the last two
in_turn : (a b c : Option LastWord) → option_or (option_or a b) c ≡ option_or a (option_or b c)
in_turn None b c = refl
in_turn (Some s) b c = refl

-- the last word among the remaining lines, or else the one so far, is that of all lines
abbrev pub SoFar : Kind → Bool → ℕ → List Line → List Line → Option LastWord → Type 0
SoFar kind deletes number lines rest last = option_or (last_word kind deletes number rest) last ≡ last_word kind deletes number lines

module _ (kind : Kind) (deletes : Bool) (number : ℕ) (lines : List Line) (i n : ℕ) (bytes : List ℕ) (last : Option LastWord) where
  pub further : At lines i n bytes → SoFar kind deletes number lines (drop i lines) last → (n ≡ number → ⊥)
      → SoFar kind deletes number lines (drop (i + 1) lines) (option_or (word_read kind deletes n (line_read bytes)) last)
  further here far other =
      let no : (here.line.number == number) ≡ false = ne_eqb here.line.number number (λ e. other (sym here.number_is ∙ e)) in
      let told : option_or (option_or (last_word kind deletes number (drop (i + 1) lines)) (word_read kind deletes n (line_read bytes))) last
      ≡ option_or (last_word kind deletes number (drop i lines)) last =
      rw (here.afterwards, no, here.number_is, here.bytes_are) refl in
      sym (in_turn (last_word kind deletes number (drop (i + 1) lines)) (word_read kind deletes n (line_read bytes)) last) ∙ told ∙ far

  pub arrived : At lines i n bytes → SoFar kind deletes number lines (drop i lines) last → n ≡ number
      → option_or (word_read kind deletes n (line_read bytes)) last ≡ last_word kind deletes number lines
  arrived here far it =
      let yes : (here.line.number == number) ≡ true = eq-eqb here.line.number number (here.number_is ∙ it) in
      let told : option_or (word_read kind deletes n (line_read bytes)) last ≡ option_or (last_word kind deletes number (drop i lines)) last =
      rw (here.afterwards, yes, here.number_is, here.bytes_are) refl in
      told ∙ far

-- Words whose values are numbers have these values, whatever the parameters are.
use Rattle.std.proofs.Common.{◌≡◌, ℤ, ap, List, [], ◌∷◌, Option, Some, None, Ok, refl}
use Rattle.std.proofs.lemmas.Option.{same_Some}
use Rattle.ngc_fixed_length.specs.Limits.{IsValue}
use Rattle.ngc_line_reader.specs.declared.letter.Letter.{Letter}
use Rattle.ngc_line_reader.specs.Grammar.{Numeral, number, parameter, bracket, Item, word, setting, comment}
use Rattle.ngc_line_reader.specs.Held.{AllWithinLimit}
use Rattle.ngc_line_reader.specs.Numbers.{numeral_value}
use Rattle.ngc_line_reader.specs.Words.{with_number, number_words}
use Rattle.ngc_parameters.specs.Meaning.{Parameters, value_of, value_within, words_of, settings_of}
use Rattle.ngc_parameters.specs.Stored.{line_values}
use Rattle.ngc_parameters.proofs.Evaluates.{within}

number_is : (p : Parameters) (n : Numeral) → IsValue (numeral_value n) → value_of p (number n) ≡ Ok (numeral_value n)
unfolding value_within
number_is p n h = within (numeral_value n) h

-- a number in front
prefixed : {A : Type 0} (letter : Letter) (n : Numeral) (x : Option (List (Letter × ℤ))) (ws : List (Letter × ℤ))
    → ((xs : List (Letter × ℤ)) → x ≡ Some xs → (letter, numeral_value n) ∷ xs ≡ ws → A) → with_number letter (number n) x ≡ Some ws → A
prefixed letter n None ws further none = absurd (cc none)
prefixed letter n (Some xs) ws further some = further xs refl (same_Some _ _ some)

words_are : (p : Parameters) (items : List Item) (ws : List (Letter × ℤ)) → AllWithinLimit items → number_words items ≡ Some ws → words_of p items ≡ Ok ws
words_are p [] ws limit is = ap (λ (l : List (Letter × ℤ)). Ok l) (same_Some _ _ is)
words_are p (word letter (number n) ∷ items) ws limit is =
    prefixed letter n (number_words items) ws
    (λ xs some same. rw (number_is p n limit.0, words_are p items xs limit.1 some) (ap (λ (l : List (Letter × ℤ)). Ok l) same)) is
words_are p (word letter (parameter index) ∷ items) ws limit is = absurd (cc is)
words_are p (word letter (bracket first rest) ∷ items) ws limit is = absurd (cc is)
words_are p (setting index value ∷ items) ws limit is = absurd (cc is)
words_are p (comment bytes ∷ items) ws limit is = words_are p items ws limit.1 is

nothing_set : (p : Parameters) (items : List Item) (ws : List (Letter × ℤ)) → number_words items ≡ Some ws → settings_of p items ≡ Ok []
nothing_set p [] ws is = refl
nothing_set p (word letter (number n) ∷ items) ws is = prefixed letter n (number_words items) ws (λ xs some same. nothing_set p items xs some) is
nothing_set p (word letter (parameter index) ∷ items) ws is = absurd (cc is)
nothing_set p (word letter (bracket first rest) ∷ items) ws is = absurd (cc is)
nothing_set p (setting index value ∷ items) ws is = absurd (cc is)
nothing_set p (comment bytes ∷ items) ws is = nothing_set p items ws is

pub number_values : (p : Parameters) (items : List Item) (ws : List (Letter × ℤ)) → AllWithinLimit items → number_words items ≡ Some ws
    → line_values p items ≡ Ok (ws, [])
number_values p items ws limit is = rw (words_are p items ws limit is, nothing_set p items ws is) refl

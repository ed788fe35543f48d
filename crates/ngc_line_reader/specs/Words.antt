-- Words whose values are numbers (NISTIR 6556, 3.3.2.1), which need no parameters and no
-- expressions.
use Rattle.std.specs.Prelude.{ℕ, ◌≡◌, ℤ, List, [], ◌∷◌, map, Option, Some, None, Bool}
use Rattle.std.specs.Option.{option_map}
use Rattle.ngc_line_reader.specs.declared.letter.Letter.{Letter}
use Rattle.ngc_line_reader.specs.declared.word.Word.{Word}
use Rattle.ngc_line_reader.specs.Grammar.{Real, number, parameter, bracket, Item, word, setting, comment}
use Rattle.ngc_line_reader.specs.Grammar.{Reading, Reads}
use Rattle.ngc_line_reader.specs.Numbers.{numeral_value}
use Rattle.ngc_line_reader.specs.Held.{AllWithinLimit}

-- a word's letter and value
abbrev pub pair_of : Word → Letter × ℤ
pair_of w = (w.letter, w.value)

abbrev pub pairs_of : List Word → List (Letter × ℤ)
pairs_of ws = map pair_of ws

-- a value that is a number, before others
abbrev pub with_number : Letter → Real → Option (List (Letter × ℤ)) → Option (List (Letter × ℤ))
with_number letter (number n) rest = option_map (λ ws. (letter, numeral_value n) ∷ ws) rest
with_number letter (parameter index) rest = None
with_number letter (bracket first more) rest = None

-- the letters and values of words, if each value is a number and nothing is set
abbrev pub number_words : List Item → Option (List (Letter × ℤ))
number_words [] = Some []
number_words (word letter value ∷ items) = with_number letter value (number_words items)
number_words (setting index value ∷ items) = None
number_words (comment bytes ∷ items) = number_words items

-- The bytes have a reading, its numbers are in range, and these are its words, if all its values
-- are numbers.
pub record SaysNumbers (bytes : List ℕ) (words : Option (List (Letter × ℤ))) : Type 0 where
  pub reading : Reading
  pub reads : Reads bytes reading
  pub limit : AllWithinLimit reading.items
  pub says : words ≡ number_words reading.items

-- The bytes have a reading, and this is whether block delete skips it.
pub record SaysDeleted (bytes : List ℕ) (deleted : Bool) : Type 0 where
  pub reading : Reading
  pub reads : Reads bytes reading
  pub says : deleted ≡ reading.deleted

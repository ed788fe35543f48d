-- How our own language reads the text of plain lines. No text has two readings, by a law of
-- ngc_line_reader.
use Rattle.std.specs.Prelude.{◌≡◌, ℕ, ℤ, List, [], ◌∷◌, map, Some, Ok, is_ok, true, false}
use Rattle.std.specs.List.{AllByRecursion}
use Rattle.ngc_fixed_length.specs.Limits.{IsValue}
use Rattle.ngc_line_reader.specs.declared.letter.Letter.{Letter}
use Rattle.ngc_line_reader.specs.Grammar.{Reading, Reads}
use Rattle.ngc_line_reader.specs.Held.{WithinLimits}
use Rattle.ngc_line_reader.specs.Program.{numbered}
use Rattle.ngc_line_reader.specs.ProgramText.{program_of}
use Rattle.ngc_line_reader.specs.ReadLine.{line_read}
use Rattle.ngc_line_reader.specs.Words.{number_words}
use Rattle.ngc_plain_text.specs.Text.{word_text, line_text, program_text}
use Rattle.ngc_plain_text.specs.Limits.{AreValues, is_short, are_few}

-- the bytes are a line that is read, without a slash, whose words have these letters and values
pub record IsLineOf (bytes : List ℕ) (words : List (Letter × ℤ)) : Type 0 where
  pub reading : Reading
  pub reads : Reads bytes reading
  pub limits : WithinLimits reading
  pub accepted : is_ok (line_read bytes) ≡ true
  pub kept : reading.deleted ≡ false
  pub says : number_words reading.items ≡ Some words

-- the text of a word is a line with this word
abbrev pub WordsReadBack : Type 0
WordsReadBack = (letter : Letter) (value : ℤ) → IsValue value →
    IsLineOf (word_text (letter, value)) ((letter, value) ∷ [])

-- the text of words is a line with these words
abbrev pub LinesReadBack : Type 0
LinesReadBack = (words : List (Letter × ℤ)) → AreValues words → is_short words ≡ true →
    IsLineOf (line_text words) words

-- the text of lines is a text with these lines, numbered from 1
abbrev pub TextsReadBack : Type 0
TextsReadBack = (lines : List (List (Letter × ℤ))) → AllByRecursion AreValues lines →
    are_few lines ≡ true →
    program_of (program_text lines)
    ≡ Ok (record { lines = numbered 1 (map line_text lines); marked = false })

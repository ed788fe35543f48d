-- The words of a program's line that are written as numbers. Our own.
use Rattle.std.specs.Prelude.{ℕ, ◌+◌, ◌==◌, ◌&&◌, ℤ, pos, List, find, Option, Some, None, Bool, false, true}
use Rattle.std.specs.List.{list_any}
use Rattle.std.specs.Option.{option_and_then}
use Rattle.std.specs.Ordering.{int_eq}
use Rattle.ngc_line_reader.specs.Letter.{letter_byte}
use Rattle.ngc_line_reader.specs.ScanLine.{Parts}
use Rattle.ngc_line_reader.specs.declared.letter.Letter.{Letter}
use Rattle.ngc_line_reader.specs.declared.letter.Letter.TheVariants as letters
use Rattle.ngc_line_reader.specs.declared.line.RawWord.{RawWord}
use Rattle.ngc_line_reader.specs.declared.token.Token.{Token}
use Rattle.ngc_report.specs.Marks.{written_number}

abbrev pub has_letter : Letter → RawWord → Bool
has_letter letter word = letter_byte word.letter == letter_byte letter

-- The number after a letter in a line, in millionths. There is none if the line has no such word,
-- or if that word's value has brackets or a parameter.
abbrev pub number_after : Letter → Parts → Option ℤ
number_after letter said =
    option_and_then (written_number said.tokens) (find (has_letter letter) said.words)

abbrev pub is_number : ℤ → Option ℤ → Bool
is_number number None = false
is_number number (Some written) = int_eq written number

-- a word that is written as this letter and number, in millionths
abbrev pub is_code : Letter → ℤ → List Token → RawWord → Bool
is_code letter number tokens word =
    has_letter letter word && is_number number (written_number tokens word)

abbrev pub has_code : Letter → ℤ → Parts → Bool
has_code letter number said = list_any (is_code letter number said.tokens) said.words

abbrev pub count_if : Bool → ℕ
count_if false = 0
count_if true = 1

abbrev pub has_word : Letter → Parts → Bool
has_word letter said = list_any (has_letter letter) said.words

-- the number of axis words in a line
abbrev pub axis_words : Parts → ℕ
axis_words said =
    count_if (has_word letters.X said) + count_if (has_word letters.Y said)
    + count_if (has_word letters.Z said)

-- the number of them that are written as 0
abbrev pub is_zero : Letter → Parts → Bool
is_zero letter said = is_number (pos 0) (number_after letter said)

abbrev pub zero_words : Parts → ℕ
zero_words said =
    count_if (is_zero letters.X said) + count_if (is_zero letters.Y said)
    + count_if (is_zero letters.Z said)

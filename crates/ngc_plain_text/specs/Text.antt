-- The text of plain lines: the words of each line in order, every value as a decimal number without
-- zeros at its end. Our own.
use Rattle.std.specs.Prelude.{ℕ, ℤ, List, [], ◌∷◌, ◌++◌, map}
use Rattle.std.specs.List.{join_with_byte}
use Rattle.ngc_line_reader.specs.declared.letter.Letter.{Letter}
use Rattle.ngc_line_reader.specs.declared.word.Word.{Word}
use Rattle.ngc_line_reader.specs.Letter.{letter_byte}
use Rattle.ngc_line_reader.specs.Words.{pair_of}
use Rattle.ngc_text.specs.Millimetres.{length_text}

-- a letter and its value, which is in millionths: X-1.5 is the letter X with -1500000
abbrev pub word_text : Letter × ℤ → List ℕ
word_text w = letter_byte w.0 ∷ length_text w.1

-- the words, with a blank between each two
abbrev pub line_text : List (Letter × ℤ) → List ℕ
line_text words = join_with_byte 32 (map word_text words)

-- a word after a blank
abbrev pub next_word_text : Word → List ℕ
next_word_text w = 32 ∷ word_text (pair_of w)

-- lines, each ended by a line feed
abbrev pub program_text : List (List (Letter × ℤ)) → List ℕ
program_text [] = []
program_text (words ∷ lines) = line_text words ++ (10 ∷ program_text lines)

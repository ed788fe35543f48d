-- The last word of a kind up to a line. Our own.
use Rattle.std.specs.Prelude.{ℕ, ◌==◌, ℤ, pos, List, [], ◌∷◌, find, Option, Some, None, Result, Ok}
use Rattle.std.specs.Prelude.{Err, Bool, true, ◌&&◌, ◌||◌, if◌then◌else◌}
use Rattle.std.specs.List.{list_any}
use Rattle.std.specs.Option.{option_map, option_or}
use Rattle.std.specs.Ordering.{int_eq}
use Rattle.ngc_line_reader.specs.Letter.{letter_byte}
use Rattle.ngc_line_reader.specs.Program.{Line}
use Rattle.ngc_line_reader.specs.ReadLine.{line_read}
use Rattle.ngc_line_reader.specs.ScanLine.{Parts, ParsedLine}
use Rattle.ngc_line_reader.specs.declared.fault.LineFault.{LineFault}
use Rattle.ngc_line_reader.specs.declared.letter.Letter.{Letter}
use Rattle.ngc_line_reader.specs.declared.letter.Letter.TheVariants as letters
use Rattle.ngc_line_reader.specs.declared.line.RawWord.{RawWord}
use Rattle.ngc_line_reader.specs.declared.token.Token.{Token}
use Rattle.ngc_report.specs.Marks.{written_number}
use Rattle.ngc_refused_values.specs.declared.last_words.Kind.{Kind}
use Rattle.ngc_refused_values.specs.declared.last_words.Kind.TheVariants.{Tool, Unit}
use Rattle.ngc_refused_values.specs.declared.last_words.LastWord.{LastWord}

-- ---- the words of a line; numbers are in millionths

abbrev pub has_letter : Letter → RawWord → Bool
has_letter letter word = letter_byte word.letter == letter_byte letter

abbrev pub has_word : Letter → Parts → Bool
has_word letter said = list_any (has_letter letter) said.words

-- a code whose value is written as one of two numbers, or has brackets or a parameter
abbrev pub may_be : ℤ → ℤ → Option ℤ → Bool
may_be a b None = true
may_be a b (Some n) = int_eq n a || int_eq n b

-- G20 and G21 set the unit of lengths
abbrev pub is_of : Kind → List Token → RawWord → Bool
is_of Tool tokens word = has_letter letters.T word
is_of Unit tokens word =
    has_letter letters.G word && may_be (pos 20000000) (pos 21000000) (written_number tokens word)

abbrev pub word_of : Kind → Parts → Option RawWord
word_of kind said = find (λ w. is_of kind said.tokens w) said.words

-- ---- the last of them

-- the word of a line, unless block delete takes the line out
abbrev pub parsed_word : Kind → Bool → ℕ → ParsedLine → Option LastWord
parsed_word kind deletes number said =
    if deletes && said.deleted then None
    else option_map (λ w. record { line = number; number = written_number said.parts.tokens w })
    (word_of kind said.parts)

abbrev pub word_read : Kind → Bool → ℕ → Result ParsedLine LineFault → Option LastWord
word_read kind deletes number (Ok said) = parsed_word kind deletes number said
word_read kind deletes number (Err fault) = None

abbrev pub word_in : Kind → Bool → Line → Option LastWord
word_in kind deletes l = word_read kind deletes l.number (line_read l.bytes)

-- the last word of a kind up to the line with this number
abbrev pub last_word : Kind → Bool → ℕ → List Line → Option LastWord
last_word kind deletes number [] = None
last_word kind deletes number (l ∷ ls) =
    option_or (if l.number == number then None else last_word kind deletes number ls)
    (word_in kind deletes l)

-- The word of a line that a fault names, and its mark below the quoted line. Our own.
use Rattle.std.specs.Prelude.{ℕ, ◌==◌, ◌%◌, nat_lt, ℤ, pos, int_lt, int_le, unsigned_abs, List, [], ◌∷◌}
use Rattle.std.specs.Prelude.{◌++◌, codes, decimal, find, Option, Some, None, is_none, is_some, Result, Ok, Err}
use Rattle.std.specs.Prelude.{Bool, true, false, not, ◌&&◌, ◌||◌, if◌then◌else◌}
use Rattle.std.specs.List.{slice_get}
use Rattle.std.specs.Option.{option_map, option_and_then, option_or}
use Rattle.std.specs.Ordering.{int_eq}
use Rattle.ngc_text.specs.Millimetres.{length_text}
use Rattle.ngc_line_reader.specs.Letter.{letter_byte}
use Rattle.ngc_line_reader.specs.Program.{Line}
use Rattle.ngc_line_reader.specs.ReadLine.{line_read}
use Rattle.ngc_line_reader.specs.ScanLine.{Parts, ParsedLine}
use Rattle.ngc_line_reader.specs.declared.fault.LineFault.{LineFault}
use Rattle.ngc_line_reader.specs.declared.letter.Letter.{Letter}
use Rattle.ngc_line_reader.specs.declared.letter.Letter.TheVariants as letters
use Rattle.ngc_line_reader.specs.declared.line.RawWord.{RawWord}
use Rattle.ngc_line_reader.specs.declared.token.Symbol.{Symbol}
use Rattle.ngc_line_reader.specs.declared.token.Symbol.TheVariants as symbols
use Rattle.ngc_line_reader.specs.declared.token.Token.{Token}
use Rattle.ngc_modal_state.specs.declared.fault.MissingWord.{MissingWord}
use Rattle.ngc_modal_state.specs.declared.fault.MissingWord.TheVariants as missing
use Rattle.ngc_modal_state.specs.declared.fault.ModalFault.TheVariants.{UnknownCode, WithoutUse}
use Rattle.ngc_modal_state.specs.declared.fault.ModalFault.TheVariants.{OutOfRange, WordMissing}
use Rattle.ngc_canonical.specs.declared.fault.Fault.{Fault}
use Rattle.ngc_canonical.specs.declared.fault.Fault.TheVariants.{FeedZero, NoSuchTool, Modal}
use Rattle.ngc_canonical.specs.declared.fault.Fault.TheVariants as faults
use Rattle.ngc_report.specs.declared.marks.Limit.{Limit}
use Rattle.ngc_report.specs.declared.marks.Limit.TheVariants.{Range, Length}
use Rattle.ngc_report.specs.declared.marks.WrittenWord.{WrittenWord}
use Rattle.ngc_report.specs.declared.marks.Wanted.{Wanted}
use Rattle.ngc_report.specs.declared.marks.Wanted.TheVariants.{Any, Number, Reckoned}
use Rattle.ngc_report.specs.declared.form.Form.{Form}
use Rattle.ngc_report.specs.declared.form.Form.TheVariants.{Words, Json}
use Rattle.ngc_report.specs.Quotes.{bytes_with, mark, quote}

-- ---- the word

abbrev pub number_of : Symbol → Option ℤ
number_of (symbols.Number n) = Some n
number_of _ = None

-- the number as which a word's value is written, in millionths; none if the value has brackets or a
-- parameter
abbrev pub written_number : List Token → RawWord → Option ℤ
written_number tokens word = option_and_then (λ t. number_of t.symbol) (slice_get tokens word.first)

-- Of the words with one letter, any is wanted, or one that is written as this number, or one that
-- isn't written as a number.
abbrev pub is_wanted : Wanted → Option ℤ → Bool
is_wanted Any written = true
is_wanted (Number millionths) (Some n) = int_eq n millionths
is_wanted (Number millionths) None = false
is_wanted Reckoned written = is_none written

abbrev pub fits : Letter → Wanted → List Token → RawWord → Bool
fits letter wanted tokens word =
    (letter_byte word.letter == letter_byte letter) && is_wanted wanted (written_number tokens word)

abbrev pub first_word : Letter → Wanted → Parts → Option RawWord
first_word letter wanted said = find (λ w. fits letter wanted said.tokens w) said.words

-- ---- a word whose number is out of range, or too large

-- in millionths
abbrev pub is_whole_from : ℤ → ℤ → ℤ → Bool
is_whole_from low high n = (unsigned_abs n % 1000000 == 0) && (int_le low n && int_le n high)

-- F and S are at least 0, T and H whole and at least 0, P at least 0, and on a line with G10 L is 2 and P
-- whole and from 1 to 9
abbrev pub breaks_range : Bool → Letter → ℤ → Bool
breaks_range sets_origin letters.F n = int_lt n (pos 0)
breaks_range sets_origin letters.S n = int_lt n (pos 0)
breaks_range sets_origin letters.T n = not (is_whole_from (pos 0) (pos 1000000000000000) n)
breaks_range sets_origin letters.H n = not (is_whole_from (pos 0) (pos 1000000000000000) n)
breaks_range sets_origin letters.P n =
    int_lt n (pos 0) || (sets_origin && not (is_whole_from (pos 1000000) (pos 9000000) n))
breaks_range sets_origin letters.L n = sets_origin && not (int_eq n (pos 2000000))
breaks_range sets_origin _ n = false

-- no length is over 100,000 mm, so none is over 100,000 in either unit
abbrev pub breaks_length : Letter → ℤ → Bool
breaks_length letters.X n = nat_lt 100000000000 (unsigned_abs n)
breaks_length letters.Y n = nat_lt 100000000000 (unsigned_abs n)
breaks_length letters.Z n = nat_lt 100000000000 (unsigned_abs n)
breaks_length letters.I n = nat_lt 100000000000 (unsigned_abs n)
breaks_length letters.J n = nat_lt 100000000000 (unsigned_abs n)
breaks_length letters.K n = nat_lt 100000000000 (unsigned_abs n)
breaks_length letters.R n = nat_lt 100000000000 (unsigned_abs n)
breaks_length letters.Q n = nat_lt 100000000000 (unsigned_abs n)
breaks_length _ n = false

abbrev pub breaks : Limit → Letter → Option ℤ → Bool
breaks limit letter None = false
breaks (Range sets_origin) letter (Some n) = breaks_range sets_origin letter n
breaks Length letter (Some n) = breaks_length letter n

abbrev pub word_breaks : Limit → List Token → RawWord → Bool
word_breaks limit tokens word = breaks limit word.letter (written_number tokens word)

abbrev pub breaking_word : Limit → Parts → Option RawWord
breaking_word limit said = find (λ w. word_breaks limit said.tokens w) said.words

abbrev pub sets_origin : Parts → Bool
sets_origin said = is_some (first_word letters.G (Number (pos 10000000)) said)

-- The word of a tool that isn't in the table, where it must be of this line: M6 mounts the tool of T, and
-- only H names another.
abbrev pub tool_word_of : Option RawWord → Option RawWord → Option RawWord → Option RawWord
tool_word_of None length selected = length
tool_word_of (Some change) None selected = selected
tool_word_of (Some change) (Some length) selected = None

abbrev pub tool_word : Parts → Option RawWord
tool_word said =
    tool_word_of (first_word letters.M (Number (pos 6000000)) said) (first_word letters.H Any said)
    (first_word letters.T Any said)

-- ---- the word that a fault names

-- An unknown code is the first word that is written as its number, or else the first that isn't written
-- as a number.
abbrev pub named_word : Fault → Parts → Option RawWord
named_word (Modal OutOfRange) said = breaking_word (Range (sets_origin said)) said
named_word (faults.Length e) said = breaking_word Length said
named_word (NoSuchTool n) said = tool_word said
named_word (Modal (UnknownCode letter millionths)) said =
    option_or (first_word letter (Number millionths) said) (first_word letter Reckoned said)
named_word (Modal (WithoutUse letter)) said = first_word letter Any said
named_word _ said = None

abbrev pub mark_in : Fault → Result ParsedLine LineFault → Option ℕ
mark_in fault (Ok said) = option_map (λ w. w.column) (named_word fault said.parts)
mark_in fault (Err e) = None

-- the column, from 1, of the word that a fault names
abbrev pub mark_of : List ℕ → Fault → Option ℕ
mark_of bytes fault = mark_in fault (line_read bytes)

-- ---- the mark and the sentence

unfoldable pub mark_if : Form → ℕ → Option ℕ → List ℕ
mark_if form number None = []
mark_if form number (Some column) = mark form number column

unfoldable pub letter_text : Letter → List ℕ
letter_text letter = letter_byte letter ∷ []

-- the number is in millionths, as a length is in millionths of a millimetre
abbrev pub unknown_text : Letter → ℤ → List ℕ
unknown_text letter millionths =
    codes "The code " ++ letter_text letter ++ length_text millionths ++ codes " is unknown."

abbrev pub idle_text : Letter → List ℕ
idle_text letter = codes "Nothing uses the word " ++ letter_text letter ++ codes "."

unfoldable pub missing_text : MissingWord → List ℕ
missing_text missing.Axis = codes "An axis word is missing."
missing_text (missing.Letter letter) =
    codes "The word " ++ letter_text letter ++ codes " is missing."

-- the word that a fault names, if it is written as a number
abbrev pub as_written : List Token → RawWord → Option WrittenWord
as_written tokens w =
    option_map (λ n. record { letter = w.letter; millionths = n }) (written_number tokens w)

abbrev pub written_word : Fault → Parts → Option WrittenWord
written_word fault said = option_and_then (as_written said.tokens) (named_word fault said)

abbrev pub written_in : Fault → Result ParsedLine LineFault → Option WrittenWord
written_in fault (Ok said) = written_word fault said.parts
written_in fault (Err e) = None

abbrev pub written_of : List ℕ → Fault → Option WrittenWord
written_of bytes fault = written_in fault (line_read bytes)

abbrev pub range_text : WrittenWord → List ℕ
range_text w = letter_text w.letter ++ length_text w.millionths ++ codes " is out of its range."

abbrev pub large_text : WrittenWord → List ℕ
large_text w = letter_text w.letter ++ length_text w.millionths ++ codes " is too large."

abbrev pub tool_text : ℕ → List ℕ
tool_text n = codes "Tool " ++ decimal n ++ codes " isn't in the tool table."

-- the sentence about a word by its number
abbrev pub number_phrase : Fault → WrittenWord → List ℕ
number_phrase (Modal OutOfRange) w = range_text w
number_phrase (faults.Length e) w = large_text w
number_phrase _ w = []

abbrev pub phrase_by : Fault → Option WrittenWord → List ℕ
phrase_by fault None = []
phrase_by fault (Some w) = number_phrase fault w

-- the sentence about the word that a fault names
abbrev pub phrase : Fault → Option WrittenWord → List ℕ
phrase FeedZero word = codes "No feed above 0 is set for this motion."
phrase (NoSuchTool n) word = tool_text n
phrase (Modal (UnknownCode letter millionths)) word = unknown_text letter millionths
phrase (Modal (WithoutUse letter)) word = idle_text letter
phrase (Modal (WordMissing missed)) word = missing_text missed
phrase fault word = phrase_by fault word

abbrev pub has_phrase : Fault → Option WrittenWord → Bool
has_phrase FeedZero word = true
has_phrase (NoSuchTool n) word = true
has_phrase (Modal (UnknownCode letter millionths)) word = true
has_phrase (Modal (WithoutUse letter)) word = true
has_phrase (Modal (WordMissing missed)) word = true
has_phrase (Modal OutOfRange) word = is_some word
has_phrase (faults.Length e) word = is_some word
has_phrase _ word = false

abbrev pub words_sentence : Fault → Option WrittenWord → List ℕ
words_sentence fault word = phrase fault word ++ codes "\n"

abbrev pub fact_sentence : Fault → Option WrittenWord → List ℕ
fact_sentence fault word =
    codes ",\n{\"fact\":\"reason\",\"text\":\"" ++ phrase fault word ++ codes "\"}"

abbrev pub content_by : Form → Fault → Option WrittenWord → List ℕ
content_by Words fault word = words_sentence fault word
content_by Json fault word = fact_sentence fault word

unfoldable pub sentence : Form → Fault → Option WrittenWord → List ℕ
sentence form fault word = if has_phrase fault word then content_by form fault word else []

-- both below the line with this number, or nothing if there is none
abbrev pub named_below : Form → ℕ → Fault → Option (List ℕ) → List ℕ
named_below form number fault None = []
named_below form number fault (Some bytes) =
    mark_if form number (mark_of bytes fault) ++ sentence form fault (written_of bytes fault)

abbrev pub named_line : Form → ℕ → Fault → List Line → List ℕ
named_line form number fault lines = named_below form number fault (bytes_with number lines)

-- a line with both below it, or nothing if there is none
abbrev pub named_quote : Form → ℕ → Fault → Option (List ℕ) → List ℕ
named_quote form number fault None = []
named_quote form number fault (Some bytes) =
    quote form number (Some bytes) ++ named_below form number fault (Some bytes)

-- The lines that select a tool and that set the unit of lengths, as the words of a program say. Our
-- own: T selects the tool that M6 mounts (NISTIR 6556, 3.6.3 and 3.7.3).
use Rattle.std.specs.Prelude.{ℕ, ℤ, pos, List, Option, Some, None, Result, Ok, Err, Bool, false, not}
use Rattle.std.specs.Prelude.{◌&&◌, if◌then◌else◌}
use Rattle.std.specs.List.{list_any}
use Rattle.std.specs.Ordering.{int_eq}
use Rattle.ngc_line_reader.specs.Program.{Line}
use Rattle.ngc_line_reader.specs.ReadLine.{line_read}
use Rattle.ngc_line_reader.specs.ScanLine.{Parts, ParsedLine}
use Rattle.ngc_line_reader.specs.declared.fault.LineFault.{LineFault}
use Rattle.ngc_line_reader.specs.declared.letter.Letter.TheVariants as letters
use Rattle.ngc_line_reader.specs.declared.line.RawWord.{RawWord}
use Rattle.ngc_line_reader.specs.declared.token.Token.{Token}
use Rattle.ngc_report.specs.Marks.{written_number}
use Rattle.ngc_report.specs.Quotes.{bytes_with}
use Rattle.ngc_refused_values.specs.LastWords.{has_letter, has_word, last_word}
use Rattle.ngc_refused_values.specs.declared.last_words.Kind.TheVariants.{Tool, Unit}
use Rattle.ngc_refused_values.specs.declared.last_words.LastWord.{LastWord}

-- a word that is written as this number, in millionths
abbrev pub is_number : ℤ → Option ℤ → Bool
is_number number None = false
is_number number (Some written) = int_eq written number

-- ---- the tool

abbrev pub is_change : List Token → RawWord → Bool
is_change tokens word =
    has_letter letters.M word && is_number (pos 6000000) (written_number tokens word)

abbrev pub changes_tool : Parts → Bool
changes_tool said = list_any (is_change said.tokens) said.words

-- M6 without T and without H: the only tool of the line is the one that a line before selects
abbrev pub mounts_selected : Parts → Bool
mounts_selected said =
    changes_tool said && (not (has_word letters.T said) && not (has_word letters.H said))

abbrev pub mounted_read : Option LastWord → Result ParsedLine LineFault → Option LastWord
mounted_read selection (Ok said) = if mounts_selected said.parts then selection else None
mounted_read selection (Err fault) = None

abbrev pub mounted_in : Option LastWord → Option (List ℕ) → Option LastWord
mounted_in selection None = None
mounted_in selection (Some bytes) = mounted_read selection (line_read bytes)

-- the line that selects the tool that the line with this number mounts
abbrev pub selected_tool : Bool → ℕ → List Line → Option LastWord
selected_tool deletes number lines =
    mounted_in (last_word Tool deletes number lines) (bytes_with number lines)

-- ---- the unit

-- the line of G20, if lengths are in inches
abbrev pub inches_by : ℕ → Option ℤ → Option ℕ
inches_by line written = if is_number (pos 20000000) written then Some line else None

abbrev pub inches_of : Option LastWord → Option ℕ
inches_of None = None
inches_of (Some w) = inches_by w.line w.number

abbrev pub inches_since : Bool → ℕ → List Line → Option ℕ
inches_since deletes number lines = inches_of (last_word Unit deletes number lines)

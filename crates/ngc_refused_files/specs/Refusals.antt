-- What is printed of a refused machine file or tool table: where, what is wrong, what to write, and the line. Our own.
use Rattle.std.specs.Prelude.{ℕ, ◌+◌, nat_lt, nat_le, ◌==◌, ◌&&◌, Bool, not, List, [], ◌++◌, length, take, replicate}
use Rattle.std.specs.Prelude.{codes, decimal, Option, Some, None, if◌then◌else◌}
use Rattle.std.specs.List.{list_all}
use Rattle.ngc_text.specs.Shown.{shown_text}
use Rattle.ngc_file_lines.specs.Search.{key_line}
use Rattle.ngc_file_lines.specs.Values.{value_in, token}
use Rattle.ngc_machine_figures.specs.Keys.{name_of}
use Rattle.ngc_machine_figures.specs.Words.{bytes_of}
use Rattle.ngc_machine_figures.specs.declared.key.Key.{Key}
use Rattle.ngc_machine_figures.specs.declared.key.Key.TheVariants.{Version}
use Rattle.ngc_machine_figures.specs.declared.key_word.KeyWord.{KeyWord}
use Rattle.ngc_machine_figures.specs.declared.refusal.FileRefusal.{FileRefusal}
use Rattle.ngc_machine_figures.specs.declared.refusal.Wrong.{Wrong}
use Rattle.ngc_machine_figures.specs.declared.refusal.Wrong.TheVariants as wrongs
use Rattle.ngc_refused_files.specs.Headers.{header_of}
use Rattle.ngc_refused_files.specs.Places.{table_with, table_of, header_text, headers, place_text, line_word}
use Rattle.ngc_refused_files.specs.Sentences.{wrong_text}
use Rattle.ngc_refused_files.specs.declared.header.Brackets.{Brackets}
use Rattle.ngc_refused_files.specs.declared.header.Brackets.TheVariants.{Double, Single, Inner, Axis}
use Rattle.ngc_refused_files.specs.declared.place.Section.{Section}
use Rattle.ngc_refused_files.specs.declared.place.Section.TheVariants as sections

-- ---- the line: that of the key, or else that of its table's header

abbrev pub line_in : List ℕ → Section → List ℕ → Option (ℕ × List ℕ)
line_in bytes section key = key_line (header_text section) (headers section) key bytes

-- the first line with a header around a name
abbrev pub header_line : List ℕ → Brackets → KeyWord → Option (ℕ × List ℕ)
header_line bytes brackets name = key_line (header_of brackets (bytes_of name)) 1 [] bytes

abbrev pub or_line : Option (ℕ × List ℕ) → Option (ℕ × List ℕ) → Option (ℕ × List ℕ)
or_line (Some line) next = Some line
or_line None next = next

abbrev pub single_line : List ℕ → KeyWord → Option (ℕ × List ℕ)
single_line bytes name = or_line (header_line bytes Single name) (header_line bytes Inner name)

-- the header of an unknown table
abbrev pub table_line : List ℕ → KeyWord → Option (ℕ × List ℕ)
table_line bytes name = or_line (header_line bytes Double name) (single_line bytes name)

-- an unknown key before all tables, or an unknown table
abbrev pub top_line : List ℕ → KeyWord → Option (ℕ × List ℕ)
top_line bytes word = or_line (line_in bytes sections.Top (bytes_of word)) (table_line bytes word)

-- an axis that isn't known
abbrev pub axis_line : List ℕ → KeyWord → Option (ℕ × List ℕ)
axis_line bytes word = or_line (line_in bytes sections.Axes (bytes_of word)) (header_line bytes Axis word)

-- the line of an unknown key of a table, or the header of the table that it is itself
abbrev pub unknown_in : List ℕ → Key → KeyWord → Section → Option (ℕ × List ℕ)
unknown_in bytes table word (sections.Part n part) = line_in bytes (sections.Part n part) (line_word table)
unknown_in bytes table word sections.Top = top_line bytes word
unknown_in bytes table word sections.Axes = axis_line bytes word
unknown_in bytes table word section = line_in bytes section (bytes_of word)

abbrev pub unknown_line : List ℕ → Key → KeyWord → Option (ℕ × List ℕ)
unknown_line bytes table word = unknown_in bytes table word (table_of table)

abbrev pub line_by : List ℕ → Key → Wrong → Option (ℕ × List ℕ)
line_by bytes key (wrongs.Unknown word meant) = unknown_line bytes key word
line_by bytes key wrongs.NoEnd = line_in bytes (table_of key) []
line_by bytes key wrong = line_in bytes (table_with key) (line_word key)

-- ---- the value on it

-- printable, and no backslash, after which a text may have other characters than it shows
abbrev pub is_plain : ℕ → Bool
is_plain b = nat_lt 31 b && nat_lt b 127 && not (b == 92)

-- at least one character, and plain ones alone
abbrev pub is_plain_text : List ℕ → Bool
is_plain_text text = not (length text == 0) && list_all is_plain text

-- a plain value of at most 20 characters is shown as it is written
abbrev pub shown_value : List ℕ → List ℕ
shown_value value =
    if is_plain_text value && nat_le (length value) 20 then value else codes "the value"

abbrev pub subject_of : Option (ℕ × List ℕ) → List ℕ
subject_of None = codes "the value"
subject_of (Some (column, text)) = shown_value (token text)

-- ---- the mark below the line

-- In a text it is below the part at fault, whose column counts from the text's first character. The
-- text must be on this line, in plain characters.
abbrev pub in_text : ℕ → List ℕ → ℕ → Option ℕ
in_text column value at =
    if is_plain_text value && nat_le at 257 && nat_le column 95 then Some (column + at) else None

abbrev pub mark_by : ℕ → List ℕ → Wrong → Option ℕ
mark_by column text (wrongs.Text fault) = in_text column (token text) fault.column
mark_by column text wrong = Some column

abbrev pub mark_of : Option (ℕ × List ℕ) → Wrong → Option ℕ
mark_of None wrong = None
mark_of (Some (column, text)) wrong = mark_by column text wrong

abbrev pub mark_text : Option ℕ → List ℕ
mark_text None = []
mark_text (Some column) =
    if nat_le column 95 then take (column + 1) (replicate 96 32) ++ codes "^\n" else []

unfoldable pub with_mark : List ℕ → Option ℕ → List ℕ
with_mark line mark = (codes "  " ++ line ++ codes "\n") ++ mark_text mark

abbrev pub is_short : List ℕ → Bool
is_short line = nat_le (length line) 94

-- a line of at most 94 bytes is shown, and the mark below it
abbrev pub shown_below : List ℕ → Option ℕ → List ℕ
shown_below line mark =
    if is_short line then with_mark (shown_text line) mark else []

-- ---- all

abbrev pub value_on : Key → Option (ℕ × List ℕ) → Option (ℕ × List ℕ)
value_on key None = None
value_on key (Some (number, line)) = value_in (name_of key) line

abbrev pub number_text : Option (ℕ × List ℕ) → List ℕ
number_text None = []
number_text (Some (number, line)) = decimal number ++ codes ":"

abbrev pub line_text : Option (ℕ × List ℕ) → Option ℕ → List ℕ
line_text None mark = []
line_text (Some (number, line)) mark = shown_below line mark

unfoldable pub text_by : List ℕ → FileRefusal → Option (ℕ × List ℕ) → Option (ℕ × List ℕ) → List ℕ
text_by name refusal line value =
    name ++ codes ":" ++ number_text line ++ codes " " ++ place_text refusal.key
    ++ wrong_text (subject_of value) refusal.key refusal.wrong ++ codes "\n"
    ++ line_text line (mark_of value refusal.wrong)

-- the name is that of the file
unfoldable pub refusal_text : List ℕ → List ℕ → FileRefusal → List ℕ
refusal_text name bytes refusal =
    let line = line_by bytes refusal.key refusal.wrong in
    text_by name refusal line (value_on refusal.key line)

-- ---- the key `version` is missing in a file of version 3

unfoldable pub forgotten : FileRefusal
forgotten = record { key = Version; wrong = wrongs.Missing }

abbrev pub forgotten_text : List ℕ → List ℕ → List ℕ
forgotten_text name bytes = refusal_text name bytes forgotten

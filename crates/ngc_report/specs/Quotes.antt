-- A line of a program as a report shows it. Our own.
use Rattle.std.specs.Prelude.{ℕ, ◌+◌, ◌==◌, min, List, [], ◌∷◌, ◌++◌, flat_map, replicate, length}
use Rattle.std.specs.Prelude.{codes, decimal, Option, Some, None, option_map, ◌||◌, if◌then◌else◌}
use Rattle.std.specs.List.{find}
use Rattle.ngc_text.specs.Shown.{shown_text, shown_line}
use Rattle.ngc_line_reader.specs.Program.{Line}
use Rattle.ngc_report.specs.declared.form.Form.{Form}
use Rattle.ngc_report.specs.declared.form.Form.TheVariants.{Words, Json}

-- the line with this number in the file
abbrev pub line_with : ℕ → List Line → Option Line
line_with number lines = find (λ l. l.number == number) lines

-- a JSON string has a backslash before a quotation mark and before a backslash
abbrev pub escaped : ℕ → List ℕ
escaped b = if b == 34 || b == 92 then 92 ∷ b ∷ [] else b ∷ []

abbrev pub fact_quote : ℕ → List ℕ → List ℕ
fact_quote number bytes = codes ",\n{\"fact\":\"line\",\"number\":" ++ decimal number
    ++ codes ",\"text\":\"" ++ flat_map escaped (shown_text bytes) ++ codes "\"}"

unfoldable pub quote : Form → ℕ → Option (List ℕ) → List ℕ
quote form number None = []
quote Words number (Some bytes) = shown_line number bytes
quote Json number (Some bytes) = fact_quote number bytes

abbrev pub bytes_with : ℕ → List Line → Option (List ℕ)
bytes_with number lines = option_map (λ l. l.bytes) (line_with number lines)

-- the line with this number, or nothing if there is none
abbrev pub quoted : Form → ℕ → List Line → List ℕ
quoted form number lines = quote form number (bytes_with number lines)

-- ---- marks

-- The number of columns before a column of a line that is shown after `Line 3: `. A line has at
-- most 256, and one that is too long is marked after them.
abbrev pub indent : ℕ → ℕ → ℕ
indent number column = length (decimal number) + min column 257 + 6

unfoldable pub words_mark : ℕ → ℕ → List ℕ
words_mark number column = replicate (indent number column) 32 ++ codes "^\n"

abbrev pub fact_mark : ℕ → ℕ → List ℕ
fact_mark number column = codes ",\n{\"fact\":\"mark\",\"line\":" ++ decimal number
    ++ codes ",\"column\":" ++ decimal column ++ codes "}"

-- a mark below a column, from 1, of the line that is shown above it
unfoldable pub mark : Form → ℕ → ℕ → List ℕ
mark Words number column = words_mark number column
mark Json number column = fact_mark number column

-- a line with the mark, or nothing if there is no such line
unfoldable pub marked : Form → ℕ → ℕ → Option (List ℕ) → List ℕ
marked form number column None = []
marked form number column (Some bytes) = quote form number (Some bytes) ++ mark form number column

-- The line of a key in a table of a TOML file. Our own.
use Rattle.std.specs.Prelude.{ℕ, ◌+◌, ◌-◌, ◌==◌, List, [], ◌∷◌, Option, Some, None, ◌&&◌, if◌then◌else◌, ◌≡◌, ◌⊎◌, true}
use Rattle.ngc_file_lines.specs.declared.search.FileLine.{FileLine}
use Rattle.ngc_file_lines.specs.declared.search.Seek.{Seek}
use Rattle.ngc_file_lines.specs.declared.search.Seek.TheVariants as seeks
use Rattle.ngc_file_lines.specs.Lines.{lines_of, begins, gives, is_header}

-- What a line means in the search for a key. `ahead` counts the headers, each beginning with the
-- table's, of which the last one opens the table; it is 0 within the table.
abbrev pub sought : List ℕ → List ℕ → ℕ → List ℕ → Seek
sought header key ahead line =
    if is_header line
    then (if ahead == 0 then seeks.Ended else (
    if begins header line then (if ahead == 1 then seeks.Entered else seeks.Ahead (ahead - 1))
    else seeks.Ahead ahead))
    else (if ahead == 0 && gives key line then seeks.Found else seeks.Ahead ahead)

-- the result after a line: this line, or the header's, or that of the lines after it
abbrev pub after : Seek → ℕ × List ℕ → Option (ℕ × List ℕ) →
    (ℕ → Option (ℕ × List ℕ) → Option (ℕ × List ℕ)) → Option (ℕ × List ℕ)
after seeks.Found here table next = Some here
after seeks.Ended here table next = table
after seeks.Entered here table next = next 0 (Some here)
after (seeks.Ahead still) here table next = next still table

-- the first line has this number, and `table` is the line of the header so far
abbrev pub line_from : List ℕ → List ℕ → Option (ℕ × List ℕ) → ℕ → ℕ → List (List ℕ) → Option (ℕ × List ℕ)
line_from header key table ahead number [] = table
line_from header key table ahead number (line ∷ lines) =
    after (sought header key ahead line) (number, line) table
    (λ still found. line_from header key found still (number + 1) lines)

-- The number, from 1, and the text of the line that begins with the key. The table is that after the
-- n-th line with the header, or with n = 0 what is before all tables. If it has no such line, the
-- result is the line of its header, or None.
abbrev pub key_line : List ℕ → ℕ → List ℕ → List ℕ → Option (ℕ × List ℕ)
key_line header n key bytes = line_from header key None n 1 (lines_of bytes)

abbrev pub numbered : FileLine → ℕ × List ℕ
numbered line = (line.number, line.text.now)

-- a line begins with the key, or with the header of its table
abbrev pub IsOfKey : List ℕ → List ℕ → List ℕ → Type 0
IsOfKey header key line = (gives key line ≡ true) ⊎ (begins header line ≡ true)

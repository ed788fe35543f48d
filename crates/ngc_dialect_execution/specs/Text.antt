-- The percent signs that begin and end a program (LinuxCNC's documentation, "Overview of a G-code
-- program"; the other controls' likewise).
use Rattle.std.specs.Prelude.{ℕ, ◌+◌, ◌==◌, max, min, not, ◌&&◌, ◌||◌, List, [], ◌∷◌, find, Bool, true, false}
use Rattle.std.specs.Prelude.{Option, Some, None, if◌then◌else◌}
use Rattle.std.specs.List.{list_any}
use Rattle.ngc_line_reader.specs.Program.{split_lines}
use Rattle.ngc_dialect_names.specs.declared.dialect.Dialect.{Dialect}
use Rattle.ngc_dialect_names.specs.declared.dialect.Dialect.TheVariants as dialects
use Rattle.ngc_dialect_execution.specs.declared.text.Mark.{Mark}
use Rattle.ngc_dialect_execution.specs.declared.text.Mark.TheVariants.{Begins, Ends, IsLine}
use Rattle.ngc_dialect_execution.specs.declared.text.LinesBefore.{LinesBefore}

-- a space, a tabulator, a carriage return
abbrev pub is_blank : ℕ → Bool
is_blank byte = (byte == 32) || (byte == 9) || (byte == 13)

abbrev pub first_byte : List ℕ → Option ℕ
first_byte bytes = find (λ b. not (is_blank b)) bytes

-- ---- block delete

abbrev pub is_slash : Option ℕ → Bool
is_slash None = false
is_slash (Some byte) = byte == 47

-- the first byte of a line that isn't white space is `/`
abbrev pub begins_with_slash : List ℕ → Bool
begins_with_slash line = is_slash (first_byte line)

-- a line of a text begins with `/`
abbrev pub has_deleted : List ℕ → Bool
has_deleted text = list_any begins_with_slash (split_lines text)

-- ---- percent signs

abbrev pub no_lines : LinesBefore
no_lines = record { count = 0; begun = false; marked = false }

-- the other controls end at a percent sign after the first line, also if the first is none
abbrev pub ends_unmarked : Dialect → Bool
ends_unmarked dialects.LinuxCnc = false
ends_unmarked _ = true

abbrev pub percent_mark : LinesBefore → Dialect → Mark
percent_mark before d =
    if not before.begun then Begins else (if before.marked || ends_unmarked d then Ends else IsLine)

-- what a line is, by its first byte
abbrev pub mark_of : LinesBefore → Dialect → Option ℕ → Mark
mark_of before d None = IsLine
mark_of before d (Some byte) = if byte == 37 then percent_mark before d else IsLine

-- lines are counted in 64 bits
abbrev pub counted : ℕ → ℕ
counted count = min (count + 1) 18446744073709551615

-- the number of the last of `count` lines; the numbers of lines are from 1 to 4,294,967,295, and a text
-- without a line ends in line 1
abbrev pub number_of : ℕ → ℕ
number_of count = max 1 (min count 4294967295)

-- what the lines up to this one are, by its first byte
abbrev pub lines_after : LinesBefore → Option ℕ → LinesBefore
lines_after before None = record before { count = counted before.count }
lines_after before (Some byte) = record {
  count = counted before.count;
  begun = true;
  marked = before.marked || ((byte == 37) && not before.begun);
}

-- whether a line is the percent sign that ends the program
abbrev pub is_end : Mark → Bool
is_end Begins = false
is_end Ends = true
is_end IsLine = false

-- the lines of a program, without their line feeds, up to the percent sign that ends it, and the number
-- of the line after which it ends
pub record ProgramLines : Type 0 where
  pub dialect : Dialect
  pub lines : List (List ℕ)
  pub last : ℕ

abbrev pub with_line : List ℕ → ProgramLines → ProgramLines
with_line bytes program = record program { lines = bytes ∷ program.lines }

-- the program's lines among those of a text, where `before` says what the lines before them were
abbrev pub lines_among : Dialect → LinesBefore → List (List ℕ) → ProgramLines
lines_among d before [] = record { dialect = d; lines = []; last = number_of before.count }
lines_among d before (bytes ∷ rest) =
    let now = lines_after before (first_byte bytes) in
    if is_end (mark_of before d (first_byte bytes))
    then record { dialect = d; lines = []; last = number_of now.count }
    else with_line bytes (lines_among d now rest)

abbrev pub program_of : Dialect → List ℕ → ProgramLines
program_of d text = lines_among d no_lines (split_lines text)

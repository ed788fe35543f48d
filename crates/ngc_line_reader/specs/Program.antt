-- The lines of a file that are read, and the number of each in the file.
--
-- From NISTIR 6556 come the lines themselves (section 3.3, "Format of a line") and the files that
-- are demarcated with percents: if the first line that is not blank has only a percent sign and
-- white space, a second such line must follow, and the text after it is ignored.
--
-- Our own: a line ends at a line feed, and the last may lack it; a line of more than 256 bytes is
-- no percent line; a percent line also ends the text of a file that is not marked; and the blank
-- lines before the first percent line are read.
use Rattle.std.specs.Prelude.{ℕ, ◌+◌, ◌==◌, ◌&&◌, nat_le, List, [], ◌∷◌, length, take_while, Bool}
use Rattle.std.specs.Prelude.{true, false, not, if◌then◌else◌}
use Rattle.std.specs.List.{list_any}
use Rattle.ngc_line_reader.specs.Text.{text}

-- a line with its number in the file
pub record Line : Type 0 where
  pub number : ℕ
  pub bytes : List ℕ

-- a byte in front of the first line
abbrev pub with_first : ℕ → List (List ℕ) → List (List ℕ)
with_first b [] = (b ∷ []) ∷ []
with_first b (line ∷ lines) = (b ∷ line) ∷ lines

-- the lines of a file: a line feed ends one, and the last may lack it
abbrev pub split_lines : List ℕ → List (List ℕ)
split_lines [] = []
split_lines (b ∷ bytes) = let lines = split_lines bytes in
    (if b == 10 then [] ∷ lines else with_first b lines)

-- the lines with their numbers, from this one on
abbrev pub numbered : ℕ → List (List ℕ) → List Line
numbered n [] = []
numbered n (bytes ∷ lines) = record { number = n; bytes = bytes } ∷ numbered (n + 1) lines

-- the lines of a file, numbered from 1
abbrev pub lines_of : List ℕ → List Line
lines_of bytes = numbered 1 (split_lines bytes)

-- a line with only white space
abbrev pub is_blank_text : List ℕ → Bool
is_blank_text [] = true
is_blank_text (b ∷ rest) = false

abbrev pub is_blank_line : Line → Bool
is_blank_line line = is_blank_text (text line.bytes)

-- a line with only a percent sign and white space, and at most 256 bytes
abbrev pub is_percent_text : List ℕ → Bool
is_percent_text [] = false
is_percent_text (b ∷ rest) = (b == 37) && is_blank_text rest

abbrev pub is_percent_line : Line → Bool
is_percent_line line = nat_le (length line.bytes) 256 && is_percent_text (text line.bytes)

-- a file is marked if the first line that isn't blank is a percent line
abbrev pub is_marked : List Line → Bool
is_marked [] = false
is_marked (line ∷ lines) = if is_blank_line line then is_marked lines else is_percent_line line

-- the lines without the percent line that marks the file
abbrev pub without_mark : List Line → List Line
without_mark [] = []
without_mark (line ∷ lines) =
    if is_blank_line line then line ∷ without_mark lines
    else (if is_percent_line line then lines else line ∷ lines)

-- the lines that are read: those before the percent line that ends the text
abbrev pub read_lines : List Line → List Line
read_lines lines = take_while (λ line. not (is_percent_line line)) (without_mark lines)

-- the second percent line of a marked file is missing
abbrev pub lacks_end : List Line → Bool
lacks_end lines = is_marked lines && not (list_any is_percent_line (without_mark lines))

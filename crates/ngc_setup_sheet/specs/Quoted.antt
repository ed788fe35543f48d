-- The line of a file that has a key, as it is shown. Our own.
use Rattle.std.specs.Prelude.{ℕ, ◌+◌, ◌-◌, ◌==◌, nat_eq, List, [], ◌∷◌, length, drop, codes, Bool}
use Rattle.std.specs.Prelude.{false, ◌&&◌, ◌||◌, if◌then◌else◌}
use Rattle.std.specs.List.{starts_with}
use Rattle.ngc_text.specs.Shown.{shown_line}
use Rattle.ngc_setup_sheet.specs.declared.quoted.Seek.{Seek}
use Rattle.ngc_setup_sheet.specs.declared.quoted.Seek.TheVariants as seeks
use Rattle.ngc_setup_sheet.specs.declared.mistake.Section.{Section}
use Rattle.ngc_setup_sheet.specs.declared.mistake.Section.TheVariants as sections

-- ---- lines

abbrev pub longer_first : ℕ → List (List ℕ) → List (List ℕ)
longer_first b [] = (b ∷ []) ∷ []
longer_first b (line ∷ lines) = (b ∷ line) ∷ lines

abbrev pub lines_of : List ℕ → List (List ℕ)
lines_of [] = []
lines_of (b ∷ bytes) = if b == 10 then [] ∷ lines_of bytes else longer_first b (lines_of bytes)

-- the first line, and the bytes after its line feed
abbrev pub line_of : List ℕ → List ℕ
line_of [] = []
line_of (b ∷ bytes) = if b == 10 then [] else b ∷ line_of bytes

abbrev pub rest_after_line : List ℕ → List ℕ
rest_after_line [] = []
rest_after_line (b ∷ bytes) = if b == 10 then bytes else rest_after_line bytes

-- the bytes after spaces and tabs
abbrev pub unindented : List ℕ → List ℕ
unindented [] = []
unindented (b ∷ bytes) = if b == 32 || b == 9 then unindented bytes else b ∷ bytes

-- a space, a tab or an equals sign comes first
abbrev pub ends_key : List ℕ → Bool
ends_key [] = false
ends_key (b ∷ bytes) = b == 32 || b == 9 || b == 61

abbrev pub begins : List ℕ → List ℕ → Bool
begins word line = starts_with nat_eq (unindented line) word

-- it begins with the key
abbrev pub gives : List ℕ → List ℕ → Bool
gives key line = begins key line && ends_key (drop (length key) (unindented line))

-- The meaning of a line for the search for a key in a table. The number counts the headers that
-- still come before the table.
abbrev pub sought : List ℕ → List ℕ → ℕ → List ℕ → Seek
sought header key ahead line =
    if begins header line
    then (if ahead == 0 then seeks.Ended else seeks.Ahead (ahead - 1))
    else (if ahead == 0 && gives key line then seeks.Found else seeks.Ahead ahead)

abbrev pub found_or : Seek → List ℕ → (ℕ → List ℕ) → List ℕ
found_or seeks.Found here afterwards = here
found_or seeks.Ended here afterwards = []
found_or (seeks.Ahead ahead) here afterwards = afterwards ahead

-- The line that is found; the first line has this number.
abbrev pub quote_from : List ℕ → List ℕ → ℕ → ℕ → List (List ℕ) → List ℕ
quote_from header key ahead number [] = []
quote_from header key ahead number (line ∷ lines) =
    found_or (sought header key ahead line) (shown_line number line)
    (λ still. quote_from header key still (number + 1) lines)

-- ---- the line of a key in a table

abbrev pub header_text : Section → List ℕ
header_text sections.Machine = codes "[[fixture]]"
header_text (sections.FirstFixture n) = codes "[[fixture]]"
header_text (sections.SecondFixture n) = codes "[[fixture]]"
header_text sections.Tools = codes "[[tool]]"
header_text (sections.FirstTool n) = codes "[[tool]]"
header_text (sections.SecondTool n) = codes "[[tool]]"

-- the number of headers before it
abbrev pub headers : Section → ℕ
headers sections.Machine = 0
headers (sections.FirstFixture n) = n + 1
headers (sections.SecondFixture n) = n + 1
headers sections.Tools = 0
headers (sections.FirstTool n) = n + 1
headers (sections.SecondTool n) = n + 1

abbrev pub quote_of : Section → List ℕ → List ℕ → List ℕ
quote_of section key bytes =
    quote_from (header_text section) key (headers section) 1 (lines_of bytes)

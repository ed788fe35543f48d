-- The lines of a TOML file, and what they begin with. Our own.
use Rattle.std.specs.Prelude.{ℕ, ◌==◌, nat_eq, List, [], ◌∷◌, length, drop, Bool, false, ◌&&◌, ◌||◌, if◌then◌else◌}
use Rattle.std.specs.Char.{is_ascii_alphabetic}
use Rattle.std.specs.List.{starts_with}

abbrev pub longer_first : ℕ → List (List ℕ) → List (List ℕ)
longer_first b [] = (b ∷ []) ∷ []
longer_first b (line ∷ lines) = (b ∷ line) ∷ lines

abbrev pub lines_of : List ℕ → List (List ℕ)
lines_of [] = []
lines_of (b ∷ bytes) = if b == 10 then [] ∷ lines_of bytes else longer_first b (lines_of bytes)

-- the first line, and the bytes after its line feed
abbrev pub line_of : List ℕ → List ℕ
line_of [] = []
line_of (b ∷ bytes) = if b == 10 then [] else b ∷ line_of bytes

abbrev pub rest_after_line : List ℕ → List ℕ
rest_after_line [] = []
rest_after_line (b ∷ bytes) = if b == 10 then bytes else rest_after_line bytes

-- the bytes after spaces and tabs
abbrev pub unindented : List ℕ → List ℕ
unindented [] = []
unindented (b ∷ bytes) = if b == 32 || b == 9 then unindented bytes else b ∷ bytes

-- a space, a tab or an equals sign comes first
abbrev pub ends_key : List ℕ → Bool
ends_key [] = false
ends_key (b ∷ bytes) = b == 32 || b == 9 || b == 61

abbrev pub begins : List ℕ → List ℕ → Bool
begins word line = starts_with nat_eq (unindented line) word

-- the line begins with the key
abbrev pub gives : List ℕ → List ℕ → Bool
gives key line = begins key line && ends_key (drop (length key) (unindented line))

-- a bracket, and another one or a letter: [axis.x], [[fixture]]. A line of numbers in an array, such as
-- [0, 0, 0], is none
abbrev pub opens_table : List ℕ → Bool
opens_table (a ∷ b ∷ rest) = a == 91 && (b == 91 || is_ascii_alphabetic b)
opens_table _ = false

abbrev pub is_header : List ℕ → Bool
is_header line = opens_table (unindented line)

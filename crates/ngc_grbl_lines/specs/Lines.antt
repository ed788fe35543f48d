-- The lines of a text, and parts of them.
use Rattle.std.specs.Prelude.{ℕ, zero, suc, ◌+◌, ◌==◌, ◌||◌, not, min, Bool, List, [], ◌∷◌}
use Rattle.std.specs.Prelude.{length, take, drop}
use Rattle.std.specs.List.{prefix_len}

-- ---- parts

abbrev pub is_other : ℕ → ℕ → Bool
is_other byte b = not (b == byte)

-- what stands before the first byte of this value: all, if there is none
abbrev pub before : ℕ → List ℕ → List ℕ
before byte text = take (prefix_len (is_other byte) text) text

-- the first byte of this value and what follows it: nothing, if there is none
abbrev pub from : ℕ → List ℕ → List ℕ
from byte text = drop (prefix_len (is_other byte) text) text

-- what follows the first byte of this value
abbrev pub after : ℕ → List ℕ → List ℕ
after byte text = drop 1 (from byte text)

-- a space or a tab
abbrev pub is_blank : ℕ → Bool
is_blank b = (b == 32) || (b == 9)

abbrev pub without_blanks : List ℕ → List ℕ
without_blanks text = drop (prefix_len is_blank text) text

-- ---- lines

-- the number of bytes of a text's first line, with its line feed
abbrev pub line_length : List ℕ → ℕ
line_length text = min (prefix_len (is_other 10) text + 1) (length text)

-- the first n lines of a text
abbrev pub lines_within : ℕ → List ℕ → List (List ℕ)
lines_within zero text = []
lines_within (suc n) [] = []
lines_within (suc n) (b ∷ rest) =
    let text = b ∷ rest in
    take (line_length text) text ∷ lines_within n (drop (line_length text) text)

-- the lines of a text, each with its line feed
unfoldable pub lines_of : List ℕ → List (List ℕ)
lines_of text = lines_within (length text) text

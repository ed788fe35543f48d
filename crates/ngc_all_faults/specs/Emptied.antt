-- A text with a line that is emptied. Our own.
use Rattle.std.specs.Prelude.{ℕ, ◌-◌, ◌==◌, List, [], ◌∷◌, Bool, not, ◌||◌, if◌then◌else◌}

-- The number of lines to the line to empty, after a byte. The number is 1 within that line, and 0
-- after it.
abbrev pub left_after : ℕ → ℕ → ℕ
left_after left b = if b == 10 then left - 1 else left

-- whether a byte stays: line feeds do, and so does each byte of other lines
abbrev pub kept : ℕ → ℕ → Bool
kept left b = b == 10 || not (left == 1)

-- a text without the bytes of the line with this number, from 1
abbrev pub emptied : ℕ → List ℕ → List ℕ
emptied left [] = []
emptied left (b ∷ bs) =
    if kept left b then b ∷ emptied (left_after left b) bs else emptied (left_after left b) bs

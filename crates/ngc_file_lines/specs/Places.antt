-- Where a byte of a text is: its line, and what is before it there. Our own.
use Rattle.std.specs.Prelude.{ℕ, ◌+◌, ◌-◌, nat_le, List, [], ◌∷◌, length, if◌then◌else◌}
use Rattle.ngc_file_lines.specs.Lines.{lines_of}
use Rattle.ngc_file_lines.specs.declared.place.FilePlace.{FilePlace}

-- a line by its number and its text, and the number of bytes in front of the place
pub record Place : Type 0 where
  pub number : ℕ
  pub line : List ℕ
  pub before : ℕ

-- The place after n bytes, where the first line has this number: in that line or at its end, if it is long enough, or
-- else in the lines after it and its line feed. After all lines it is at the beginning of an empty one.
abbrev pub place_from : ℕ → ℕ → List (List ℕ) → Place
place_from number n [] = record { number = number; line = []; before = n }
place_from number n (line ∷ lines) =
    if nat_le n (length line) then record { number = number; line = line; before = n }
    else place_from (number + 1) (n - (length line + 1)) lines

-- the place after the first n bytes of a text
abbrev pub place_after : ℕ → List ℕ → Place
place_after n bytes = place_from 1 n (lines_of bytes)

abbrev pub place_of : FilePlace → Place
place_of p = record { number = p.line.number; line = p.line.text.now; before = p.before }

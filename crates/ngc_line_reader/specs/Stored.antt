-- The storage of lines: their bytes in order, and for each line its number and its end.
use Rattle.std.specs.Prelude.{ℕ, zero, suc, ◌*◌, ◌==◌, ◌&&◌, nat_le, is_ok, List, [], ◌∷◌, length}
use Rattle.std.specs.Prelude.{slice_range, Bool}
use Rattle.std.specs.List.{list_all}
use Rattle.ngc_line_reader.specs.declared.program.stored.LineEnd.{LineEnd}
use Rattle.ngc_line_reader.specs.Program.{Line}
use Rattle.ngc_line_reader.specs.ReadLine.{line_read}

abbrev pub line_of : ℕ → List ℕ → Line
line_of number bytes = record { number = number; bytes = bytes }

-- the lines with these ends, the first of which begins at start
abbrev pub lines_from : List ℕ → ℕ → List LineEnd → List Line
lines_from bytes start [] = []
lines_from bytes start (e ∷ ends) =
    line_of e.number (slice_range bytes start e.end) ∷ lines_from bytes e.end ends

-- the start of the line with this index
abbrev pub start_from : ℕ → List LineEnd → ℕ → ℕ
start_from start [] i = start
start_from start (e ∷ ends) zero = start
start_from start (e ∷ ends) (suc i) = start_from e.end ends i

-- no line ends before it begins, and the last ends with the bytes
abbrev pub are_ends : ℕ → ℕ → List LineEnd → Bool
are_ends start total [] = start == total
are_ends start total (e ∷ ends) = nat_le start e.end && are_ends e.end total ends

-- a line that was read without a fault
abbrev pub is_read : Line → Bool
is_read line = is_ok (line_read line.bytes)

abbrev pub is_stored : List ℕ → List LineEnd → Bool
is_stored bytes ends = are_ends 0 (length bytes) ends
    && (nat_le (length bytes) (256 * length ends) && list_all is_read (lines_from bytes 0 ends))

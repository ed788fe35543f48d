-- The limits of a text that our own language reads.
use Rattle.std.specs.Prelude.{ℤ, ◌&&◌, nat_le, Bool, List, length}
use Rattle.std.specs.List.{AllByRecursion, list_all}
use Rattle.ngc_fixed_length.specs.Limits.{IsValue}
use Rattle.ngc_line_reader.specs.declared.letter.Letter.{Letter}
use Rattle.ngc_plain_text.specs.Text.{line_text}

-- a line has at most 64 words and 256 bytes
abbrev pub is_short : List (Letter × ℤ) → Bool
is_short words = nat_le (length words) 64 && nat_le (length (line_text words)) 256

-- a program has at most 100,000 lines
abbrev pub are_few : List (List (Letter × ℤ)) → Bool
are_few lines = nat_le (length lines) 100000 && list_all is_short lines

-- each value is at most 10^9 in size
abbrev pub AreValues : List (Letter × ℤ) → Type 0
AreValues words = AllByRecursion (λ w. IsValue w.1) words

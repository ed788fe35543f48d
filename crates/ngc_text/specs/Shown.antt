-- Lines as a terminal shows them. Our own.
use Rattle.std.specs.Prelude.{ℕ, ◌==◌, nat_lt, List, ◌++◌, take, map, codes, decimal, ◌&&◌, ◌||◌}
use Rattle.std.specs.Prelude.{if◌then◌else◌}

-- A byte that a terminal prints is shown as it is. A tab and a carriage return are shown as a
-- space, and every other byte as a question mark.
abbrev pub shown : ℕ → ℕ
shown b = if nat_lt 31 b && nat_lt b 127 then b else (if b == 9 || b == 13 then 32 else 63)

-- at most 256 bytes of a line
abbrev pub shown_text : List ℕ → List ℕ
shown_text bytes = map shown (take 256 bytes)

-- after its number
abbrev pub shown_line : ℕ → List ℕ → List ℕ
shown_line number bytes =
    codes "Line " ++ decimal number ++ codes ": " ++ shown_text bytes ++ codes "\n"

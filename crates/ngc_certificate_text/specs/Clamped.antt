-- Numbers in 64 bits: a number that is out of every range is replaced with another such number. Our
-- own.
use Rattle.std.specs.Prelude.{ℕ, min, ℤ, pos, negsuc, List, [], ◌∷◌, length, map, Option, Some}
use Rattle.std.specs.Prelude.{None, ◌==◌, nat_le, if◌then◌else◌}
use Rattle.std.specs.Borrow.{Bor}
use Rattle.ngc_certificate_text.specs.Number.{fields}
use Rattle.ngc_certificate_text.specs.Lines.{numbers_in}

abbrev pub clamped : ℤ → ℤ
clamped (pos n) = pos (min n 10000000000)
clamped (negsuc n) = negsuc (min n 9999999999)

-- the bytes after a leading minus sign
abbrev pub minus_tail : List ℕ → Option (List ℕ)
minus_tail [] = None
minus_tail (b ∷ rest) = if b == 45 then Some rest else None

-- the fields of a text, if there is one
abbrev pub all_fields : Option (Bor (List ℕ)) → List (List ℕ)
all_fields None = []
all_fields (Some text) = fields text.now

-- at most eight
abbrev pub at_most_eight : Option (List ℤ) → Option (List ℤ)
at_most_eight None = None
at_most_eight (Some zs) = if nat_le (length zs) 8 then Some (map clamped zs) else None

abbrev pub numbers_left : List (List ℕ) → Option (List ℤ)
numbers_left fs = at_most_eight (numbers_in fs)

-- The fields of a line, and numbers as a certificate writes them. Our own.
use Rattle.std.specs.Prelude.{ℕ, zero, suc, ℤ, pos, negsuc, List, [], ◌∷◌, Option, Some, None, ◌==◌}
use Rattle.std.specs.Prelude.{if◌then◌else◌}
use Rattle.std.specs.List.{slice_split}
use Rattle.std.specs.Option.{option_map}
use Rattle.ngc_text.specs.Decimals.{decimal_in}

-- the texts between single spaces
abbrev pub fields : List ℕ → List (List ℕ)
fields line = slice_split (λ b. b == 32) line

-- 0 has no sign
abbrev pub negated : Option ℕ → Option ℤ
negated None = None
negated (Some zero) = None
negated (Some (suc n)) = Some (negsuc n)

-- a leading minus sign is allowed, a plus sign is not
unfoldable pub number_in : List ℕ → Option ℤ
number_in [] = None
number_in (b ∷ rest) =
    if b == 45 then negated (decimal_in rest) else option_map pos (decimal_in (b ∷ rest))

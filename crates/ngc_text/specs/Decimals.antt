-- Numbers in decimal notation. Our own.
use Rattle.std.specs.Prelude.{ℕ, min, List, [], ◌∷◌, length, Option, Some, None, Bool, false, not}
use Rattle.std.specs.Prelude.{◌==◌, ◌&&◌, ◌||◌, if◌then◌else◌}
use Rattle.std.specs.Str.{all_ascii_digits}
use Rattle.std.specs.Str.Parse.{digits_value}

-- some bytes, without leading zeros
abbrev pub has_lead : List ℕ → Bool
has_lead [] = false
has_lead (d ∷ ds) = not (d == 48) || (length ds == 0)

-- digits, without leading zeros
abbrev pub are_digits : List ℕ → Bool
are_digits text = all_ascii_digits text && has_lead text

-- the number, of any size, that a text writes in decimal
abbrev pub decimal_in : List ℕ → Option ℕ
decimal_in text = if are_digits text then Some (digits_value 10 text) else None

-- a greater number is replaced with this one
abbrev pub limited : ℕ → ℕ
limited n = min n 10000000000

-- the number that digits write
abbrev pub digits_size : List ℕ → Option ℕ
digits_size ds = if all_ascii_digits ds then Some (limited (digits_value 10 ds)) else None

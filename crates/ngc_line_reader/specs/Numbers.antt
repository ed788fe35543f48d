-- The value of a number (NISTIR 6556, 3.3.2.1), in millionths. Our own: decimals from the seventh
-- on are rounded to the nearest millionth, ties away from zero.
use Rattle.std.specs.Prelude.{ℕ, ◌+◌, ◌-◌, ◌*◌, ◌^◌, ℤ, pos, neg_ℤ, List, ◌++◌, length, Bool, true}
use Rattle.std.specs.Prelude.{false}
use Rattle.std.specs.List.{fold}
use Rattle.ngc_fixed_length.specs.Rounding.{nearest_size}
use Rattle.ngc_fixed_length.specs.Limits.{MILLION}
use Rattle.ngc_line_reader.specs.Grammar.{Sign, bare, plus, minus, Numeral, digits_of}

-- the number that decimal digits write
abbrev pub digits_value : List ℕ → ℕ
digits_value ds = fold (λ n d. 10 * n + (d - 48)) 0 ds

abbrev pub signed : Bool → ℕ → ℤ
signed true n = neg_ℤ (pos n)
signed false n = pos n

abbrev pub is_negative : Sign → Bool
is_negative bare = false
is_negative plus = false
is_negative minus = true

-- millionths: the number that all digits write, divided by ten for each decimal, rounded
abbrev pub written_value : Bool → List ℕ → List ℕ → ℤ
written_value negative whole decimals = signed negative
    (nearest_size (digits_value (whole ++ decimals) * MILLION) (10 ^ length decimals))

abbrev pub numeral_value : Numeral → ℤ
numeral_value n = written_value (is_negative n.sign) n.whole (digits_of n.decimals)

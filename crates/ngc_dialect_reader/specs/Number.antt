-- A number as it is written (NISTIR 6556, 3.3.2.1): an optional sign, digits, and further digits if
-- there is a point; at least one digit. Its value is in 10^-12. Our own: decimals from the thirteenth
-- on are rounded to the nearest, ties away from zero, and no number is over 10^9 in size.
use Rattle.std.specs.Prelude.{ℕ, ◌+◌, ◌-◌, ◌*◌, ◌^◌, ◌==◌, ◌&&◌, ◌||◌, nat_le, ℤ, pos, neg_ℤ, List, []}
use Rattle.std.specs.Prelude.{◌∷◌, ◌++◌, length, drop, Option, Some, None, Bool, true, false, Result, Ok, Err}
use Rattle.std.specs.Prelude.{if◌then◌else◌}
use Rattle.std.specs.Char.{is_ascii_digit}
use Rattle.std.specs.List.{take_while, prefix_len, fold}
use Rattle.ngc_fixed_length.specs.Rounding.{nearest_size}
use Rattle.ngc_line_reader.specs.Numbers.{digits_value}
use Rattle.ngc_line_reader.specs.Scan.{begins, digits_at, after_digits}
use Rattle.ngc_dialect_reader.specs.declared.fault.Cause.{Cause}
use Rattle.ngc_dialect_reader.specs.declared.fault.Cause.TheVariants as causes
use Rattle.ngc_dialect_reader.specs.declared.fault.Refusal.{Refusal}
use Rattle.ngc_dialect_reader.specs.declared.part.Literal.{Literal}

-- the parts of a number in 1, and the greatest number
abbrev pub ONE : ℕ
ONE = 1000000000000

abbrev pub LIMIT : ℕ
LIMIT = 1000000000000000000000

abbrev pub refusal : Cause → ℕ → Refusal
refusal cause left = record { cause = cause; left = left }

abbrev pub has_sign : List ℕ → Bool
has_sign s = begins 43 s || begins 45 s

abbrev pub unsigned : List ℕ → List ℕ
unsigned s = if has_sign s then drop 1 s else s

-- the digits before the point, those after it, and the rest

abbrev pub whole_at : List ℕ → List ℕ
whole_at s = digits_at (unsigned s)

abbrev pub after_whole : List ℕ → List ℕ
after_whole s = after_digits (unsigned s)

abbrev pub decimals_in : List ℕ → List ℕ
decimals_in s = if begins 46 s then digits_at (drop 1 s) else []

abbrev pub after_decimals : List ℕ → List ℕ
after_decimals s = if begins 46 s then after_digits (drop 1 s) else s

-- the number that all digits write, divided by ten for each decimal, rounded
abbrev pub size_of : List ℕ → List ℕ → ℕ
size_of whole decimals =
    nearest_size (digits_value (whole ++ decimals) * ONE) (10 ^ length decimals)

-- a size that is not too large
abbrev pub limited : ℕ → Option ℕ
limited n = if nat_le n LIMIT then Some n else None

abbrev pub signed : Bool → ℕ → ℤ
signed true n = neg_ℤ (pos n)
signed false n = pos n

abbrev pub literal : Bool → ℕ → Bool → Literal
literal negative size point = record { value = signed negative size; point = point }

-- the number of this size at s, and the rest
abbrev pub number_of : Option ℕ → List ℕ → Result (Literal × List ℕ) Refusal
number_of None s = Err (refusal causes.NumberTooLarge (length s))
number_of (Some size) s =
    Ok (literal (begins 45 s) size (begins 46 (after_whole s)), after_decimals (after_whole s))

-- a number, and the rest
unfoldable pub number_at : List ℕ → Result (Literal × List ℕ) Refusal
number_at s =
    if (length (whole_at s) == 0) && (length (decimals_in (after_whole s)) == 0)
    then Err (refusal causes.NumberWithoutDigits (length s)) else (
    if begins 46 (after_decimals (after_whole s)) then Err (refusal causes.SecondPoint (length s)) else (
    number_of (limited (size_of (whole_at s) (decimals_in (after_whole s)))) s))

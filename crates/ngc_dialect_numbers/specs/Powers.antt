-- Powers.
use Rattle.std.specs.Prelude.{ℕ, zero, suc, ◌*◌, ◌/◌, ◌%◌, ◌^◌, ◌==◌, nat_le, Bool, not, ◌&&◌, if◌then◌else◌}
use Rattle.std.specs.Prelude.{ℤ, pos, neg_ℤ, unsigned_abs, Option, Some, None, Result, Ok, Err}
use Rattle.ngc_fixed_length.specs.Signed.{is_negative}
use Rattle.ngc_dialect_numbers.specs.declared.fault.NoValue.{NoValue}
use Rattle.ngc_dialect_numbers.specs.declared.fault.NoValue.TheVariants.{OutOfRange, NegativeBase, ZeroBase}
use Rattle.ngc_dialect_numbers.specs.Numbers.{ONE, limited, truth, quotient, is_within, rounded_product}
use Rattle.ngc_dialect_numbers.specs.Growth.{exponential, logarithm}

-- a product of sizes, if it is a whole number of units and in range
abbrev pub exact_product : ℕ → ℕ → Option ℕ
exact_product x y = if is_within (10 ^ 33) x y && x * y % ONE == 0 then Some (x * y / ONE) else None

abbrev pub next_power : ℕ → Option ℕ → Option ℕ
next_power size (Some power) = exact_product power size
next_power size None = None

-- a whole power, if each product on the way to it is exact
abbrev pub exact_power : ℕ → ℕ → Option ℕ
exact_power size zero = Some ONE
exact_power size (suc n) = next_power size (exact_power size n)

abbrev pub short_power : ℕ → ℕ → Option ℕ
short_power size exponent = if nat_le exponent 30 then exact_power size exponent else None

-- e to a power, or to one that is far below or above the range
abbrev pub power_from : Option ℤ → Bool → Result ℤ NoValue
power_from (Some power) below = exponential power
power_from None below = if below then Ok (pos 0) else Err OutOfRange

abbrev pub differ : Bool → Bool → Bool
differ a b = if a then not b else b

abbrev pub by_logarithm : ℕ → ℤ → Result ℤ NoValue
by_logarithm size exponent =
    power_from (rounded_product (logarithm size) exponent) (differ (is_negative (logarithm size)) (is_negative exponent))

abbrev pub inverse_of : Result ℤ NoValue → Result ℤ NoValue
inverse_of (Ok power) = quotient (pos ONE) power
inverse_of (Err reason) = Err reason

abbrev pub exact : ℕ → Bool → Result ℤ NoValue
exact power inverse = if inverse then inverse_of (limited (pos power)) else limited (pos power)

abbrev pub exact_or : Option ℕ → ℕ → ℤ → Result ℤ NoValue
exact_or (Some power) size exponent = exact power (is_negative exponent)
exact_or None size exponent = by_logarithm size exponent

-- a size to a whole power
abbrev pub whole_size : ℕ → ℤ → Result ℤ NoValue
whole_size size exponent = exact_or (short_power size (unsigned_abs exponent / ONE)) size exponent

abbrev pub with_sign : Bool → Result ℤ NoValue → Result ℤ NoValue
with_sign negative (Ok size) = Ok (if negative then neg_ℤ size else size)
with_sign negative (Err reason) = Err reason

abbrev pub zero_power : ℤ → Result ℤ NoValue
zero_power exponent = if is_negative exponent then Err ZeroBase else Ok (truth (unsigned_abs exponent == 0))

abbrev pub is_power_negative : ℤ → ℤ → Bool
is_power_negative base exponent = is_negative base && unsigned_abs exponent / ONE % 2 == 1

abbrev pub whole_power : ℤ → ℤ → Result ℤ NoValue
whole_power base exponent = with_sign (is_power_negative base exponent) (whole_size (unsigned_abs base) exponent)

abbrev pub other_power : ℤ → ℤ → Result ℤ NoValue
other_power base exponent =
    if unsigned_abs exponent % ONE == 0 then whole_power base exponent
    else (if is_negative base then Err NegativeBase else by_logarithm (unsigned_abs base) exponent)

abbrev pub power : ℤ → ℤ → Result ℤ NoValue
power base exponent = if unsigned_abs base == 0 then zero_power exponent else other_power base exponent

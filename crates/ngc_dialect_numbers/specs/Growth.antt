-- Powers of e and natural logarithms. They are computed in units of 10^-18.
use Rattle.std.specs.Prelude.{ℕ, zero, suc, ◌+◌, ◌-◌, ◌*◌, ◌/◌, ◌^◌, ◌≤◌, ◌<◌, nat_le, nat_lt, Bool, if◌then◌else◌}
use Rattle.std.specs.Prelude.{ℤ, pos, negsuc, ◌+ℤ◌, ◌-ℤ◌, ◌*ℤ◌, int_lt, unsigned_abs, Result, Ok, Err}
use Rattle.std.specs.Int.{int_rem_euclid, int_div_euclid}
use Rattle.std.specs.Int.{abs_diff}
use Rattle.ngc_fixed_length.specs.Rounding.{nearest, nearest_size}
use Rattle.ngc_dialect_numbers.specs.declared.fault.NoValue.{NoValue}
use Rattle.ngc_dialect_numbers.specs.declared.fault.NoValue.TheVariants.{OutOfRange, NotAboveZero}
use Rattle.ngc_dialect_numbers.specs.declared.growth.Scaled.{Scaled}
use Rattle.ngc_dialect_numbers.specs.Numbers.{ONE, signed, limited}
use Rattle.ngc_dialect_numbers.specs.Series.{WIDE}
use Rattle.ngc_dialect_numbers.specs.Arcs.{wide_ratio}

-- the logarithm of 2
abbrev pub LN2 : ℕ
LN2 = 693147180559945309

abbrev pub growth_term : ℕ → ℕ → ℕ → ℕ
growth_term k x rest = WIDE + rest * x / (WIDE * k)

-- 1 + x/k (1 + x/(k+1) (1 + ..)) with this number of factors
abbrev pub growth_series : ℕ → ℕ → ℕ → ℕ
growth_series zero k x = WIDE
growth_series (suc count) k x = growth_term k x (growth_series count (k + 1) x)

-- e^x for x below ln 2: 1 + x + x^2/2! + ..
unfoldable pub growth : ℕ → ℕ
growth x = growth_series 19 1 x

-- a size times a power of 2, in units of 10^-12
abbrev pub doubled : ℤ → ℕ → ℕ
doubled (pos n) size = nearest_size (size * 2 ^ n) 1000000
doubled (negsuc n) size = nearest_size size (1000000 * 2 ^ suc n)

-- e^(n ln 2 + x) is e^x times 2^n; beyond 21 it is over 10^9, and below -29 it is nearer to 0 than to a unit
abbrev pub exponential : ℤ → Result ℤ NoValue
exponential power =
    if int_lt (pos 21000000000000000000) power then Err OutOfRange else (
    if int_lt power (negsuc 28999999999999999999) then Ok (pos 0) else
    limited (pos (doubled (int_div_euclid power (pos LN2)) (growth (unsigned_abs (int_rem_euclid power (pos LN2)))))))

-- doubles the bottom this number of times, which is by the factor, unless it is then above the top
abbrev pub raised : ℕ → ℤ → Scaled → Scaled
raised factor count s =
    if nat_le (s.bottom * factor) s.top
    then record { top = s.top; bottom = s.bottom * factor; doublings = s.doublings +ℤ count }
    else s

-- doubles the top, unless it is then above the bottom
abbrev pub lowered : ℕ → ℤ → Scaled → Scaled
lowered factor count s =
    if nat_le (s.top * factor) s.bottom
    then record { top = s.top * factor; bottom = s.bottom; doublings = s.doublings -ℤ count }
    else s

-- a size of units as a fraction times a power of 2; the fraction of one above 1 is below 2
unfoldable pub halved : ℕ → Scaled
halved size =
    raised 2 (pos 1) (raised 4 (pos 2) (raised 16 (pos 4) (raised 256 (pos 8) (raised 65536 (pos 16)
    (record { top = size; bottom = ONE; doublings = pos 0 })))))

-- the same; a fraction below 1 is above 1/2
unfoldable pub doubled_up : Scaled → Scaled
doubled_up s =
    lowered 2 (pos 1) (lowered 4 (pos 2) (lowered 16 (pos 4) (lowered 256 (pos 8) (lowered 65536 (pos 16) (lowered 4294967296 (pos 32) s)))))

-- the same with a fraction from 3/4 to 3/2
unfoldable pub centred : Scaled → Scaled
centred s =
    if nat_le (3 * s.bottom) (2 * s.top)
    then record { top = s.top; bottom = 2 * s.bottom; doublings = s.doublings +ℤ pos 1 }
    else (if nat_lt (4 * s.top) (3 * s.bottom)
    then record { top = 2 * s.top; bottom = s.bottom; doublings = s.doublings -ℤ pos 1 }
    else s)

pub record IsScaled (s : Scaled) : Type 0 where
  pub top : s.top ≤ 10 ^ 21
  pub above_zero : 0 < s.bottom
  pub bottom : s.bottom ≤ 10 ^ 21

pub record IsCentred (s : Scaled) : Type 0 where
  pub top : s.top ≤ 2 * 10 ^ 21
  pub above_zero : 0 < s.bottom
  pub bottom : s.bottom ≤ 2 * 10 ^ 21

abbrev pub logarithm_term : ℕ → ℕ → ℕ → ℕ
logarithm_term odd square rest = WIDE / odd + rest * square / WIDE

-- 1/k + s (1/(k+2) + s (1/(k+4) + ..)) with this number of terms
abbrev pub logarithm_series : ℕ → ℕ → ℕ → ℕ
logarithm_series zero k square = 0
logarithm_series (suc count) k square = logarithm_term k square (logarithm_series count (k + 2) square)

-- 2 (z + z^3/3 + z^5/5 + ..), of which z is (x - 1) / (x + 1)
unfoldable pub ratio_logarithm : ℕ → ℕ
ratio_logarithm z = 2 * (z * logarithm_series 13 1 (z * z / WIDE) / WIDE)

abbrev pub fraction_logarithm : Scaled → ℕ
fraction_logarithm s = ratio_logarithm (wide_ratio (abs_diff s.top s.bottom) (s.top + s.bottom))

abbrev pub scaled_logarithm : Scaled → ℤ
scaled_logarithm s = signed (nat_lt s.top s.bottom) (fraction_logarithm s) +ℤ (s.doublings *ℤ pos LN2)

-- the logarithm of a number of units, in units of 10^-18
unfoldable pub logarithm : ℕ → ℤ
logarithm size = scaled_logarithm (centred (doubled_up (halved size)))

abbrev pub natural_logarithm : ℤ → Result ℤ NoValue
natural_logarithm (pos zero) = Err NotAboveZero
natural_logarithm (pos (suc x)) = Ok (nearest (logarithm (suc x)) (pos 1000000))
natural_logarithm (negsuc x) = Err NotAboveZero

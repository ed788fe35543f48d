-- Tangents of angles in degrees, in units of 10^-12.
use Rattle.std.specs.Prelude.{ℕ, ◌-◌, ◌*◌, ◌/◌, ◌==◌, nat_le, Bool, true, false, if◌then◌else◌, ℤ, pos, unsigned_abs}
use Rattle.std.specs.Prelude.{Result, Err}
use Rattle.std.specs.Int.{int_rem_euclid}
use Rattle.ngc_fixed_length.specs.Rounding.{nearest_size}
use Rattle.ngc_dialect_numbers.specs.declared.fault.NoValue.{NoValue}
use Rattle.ngc_dialect_numbers.specs.declared.fault.NoValue.TheVariants.{RightAngle}
use Rattle.ngc_dialect_numbers.specs.Numbers.{signed, limited}
use Rattle.ngc_dialect_numbers.specs.Series.{WIDE}
use Rattle.ngc_dialect_numbers.specs.Circles.{QUARTER, EIGHTH, radians, low_cosine, low_ratio}

-- of at most 45 degrees: sine over cosine
abbrev pub low_tangent : ℕ → ℕ
low_tangent angle = nearest_size (radians angle * low_ratio angle / low_cosine angle) 1000000

abbrev pub inverse_ratio : ℕ → ℕ
inverse_ratio angle = low_cosine angle * WIDE / low_ratio angle

-- of what is left of a right angle: cosine over sine, where the sine is the angle times low_ratio
abbrev pub high_tangent : ℕ → ℕ
high_tangent left =
    nearest_size (inverse_ratio left * 18000000000000000000 / 3141592653589793238 * 10000000) left

abbrev pub quarter_tangent : ℕ → ℕ
quarter_tangent angle = if nat_le angle EIGHTH then low_tangent angle else high_tangent (QUARTER - angle)

abbrev pub signed_tangent : Bool → ℕ → Result ℤ NoValue
signed_tangent negative angle =
    if angle == QUARTER then Err RightAngle else limited (signed negative (quarter_tangent angle))

-- of an angle below half a turn
abbrev pub half_tangent : ℕ → Result ℤ NoValue
half_tangent angle =
    if nat_le angle QUARTER then signed_tangent false angle else signed_tangent true (2 * QUARTER - angle)

abbrev pub tangent : ℤ → Result ℤ NoValue
tangent z = half_tangent (unsigned_abs (int_rem_euclid z (pos 180000000000000)))

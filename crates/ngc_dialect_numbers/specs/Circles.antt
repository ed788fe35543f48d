-- Sine and cosine of an angle in degrees, in units of 10^-12. They are computed in units of 10^-18 and rounded once.
use Rattle.std.specs.Prelude.{◌≡◌, ℕ, ◌+◌, ◌-◌, ◌*◌, ◌/◌, ◌%◌, ◌≤◌, ◌<◌, ◌==◌, nat_le, Bool, true, false, not, if◌then◌else◌}
use Rattle.std.specs.Prelude.{ℤ, pos, ◌+ℤ◌, unsigned_abs}
use Rattle.std.specs.Int.{int_rem_euclid}
use Rattle.ngc_fixed_length.specs.Rounding.{nearest, nearest_size}
use Rattle.ngc_dialect_numbers.specs.declared.circle.Octant.{Octant}
use Rattle.ngc_dialect_numbers.specs.Numbers.{ONE, signed}
use Rattle.ngc_dialect_numbers.specs.Series.{Fraction, WIDE, series, cosine_terms, sine_terms}

abbrev pub TURN : ℕ
TURN = 360000000000000

abbrev pub QUARTER : ℕ
QUARTER = 90000000000000

abbrev pub EIGHTH : ℕ
EIGHTH = 45000000000000

-- in a quarter of a turn: the sine of the angle, or the cosine of what is left to a right angle
abbrev pub in_quarter : Bool → Bool → ℕ → Octant
in_quarter negative cosine angle =
    if nat_le angle EIGHTH
    then record { negative = negative; cosine = cosine; rest = angle }
    else record { negative = negative; cosine = not cosine; rest = QUARTER - angle }

-- The sine of an angle below a turn is the sine or the cosine of at most 45 degrees, with a sign.
abbrev pub octant : ℕ → Octant
octant angle = in_quarter (nat_le (2 * QUARTER) angle) (angle / QUARTER % 2 == 1) (angle % QUARTER)

abbrev pub octant_of : ℤ → Octant
octant_of z = octant (unsigned_abs (int_rem_euclid z (pos TURN)))

-- an angle of at most 45 degrees in 10^-18 radians
abbrev pub radians : ℕ → ℕ
radians angle = angle * 3141592653589793238 / 180000000000000

abbrev pub square : ℕ → ℕ
square angle = radians angle * radians angle / WIDE

unfoldable pub low_cosine : ℕ → ℕ
low_cosine angle = series 8 1 (square angle)

-- sine over angle
unfoldable pub low_ratio : ℕ → ℕ
low_ratio angle = series 8 2 (square angle)

abbrev pub low_sine : ℕ → ℕ
low_sine angle = radians angle * low_ratio angle / WIDE

abbrev pub wide_size : Octant → ℕ
wide_size o = if o.cosine then low_cosine o.rest else low_sine o.rest

-- in units of 10^-12
abbrev pub narrow : Bool → ℕ → ℤ
narrow negative n = nearest (signed negative n) (pos 1000000)

-- the sine and the cosine of any angle
abbrev pub sine : ℤ → ℤ
sine z = narrow (octant_of z).negative (wide_size (octant_of z))

abbrev pub cosine : ℤ → ℤ
cosine z = sine (z +ℤ pos QUARTER)

-- p / q is pi to 18 decimals: both are between 3.141592653589793238 and 3.141592653589793239
pub record IsPi (p q : ℕ) : Type 0 where
  pub above_zero : 0 < q
  pub low : 3141592653589793238 * q ≤ WIDE * p
  pub high : WIDE * p ≤ 3141592653589793239 * q

-- r units are less than one unit from the fraction
pub record IsWithinUnit (r : ℕ) (f : Fraction) : Type 0 where
  pub above_zero : 0 < f.bottom
  pub low : ONE * f.top < (r + 1) * f.bottom
  pub high : r * f.bottom < ONE * f.top + f.bottom

-- the sine or the cosine of an octant, by this number of terms after the first; p / q is pi
abbrev pub terms_of : Octant → ℕ → ℕ → ℕ → Fraction
terms_of o count p q =
    if o.cosine then cosine_terms count (o.rest * p) (180 * ONE * q) else sine_terms count (o.rest * p) (180 * ONE * q)

-- r is within one unit of the sine of z: of its series, with any number of terms from 9 up and any value of pi that is right to 18 decimals
pub record IsSine (z r : ℤ) : Type 0 where
  pub size : ℕ
  pub sign : r ≡ signed (octant_of z).negative size
  pub near : (count p q : ℕ) → 8 ≤ count → IsPi p q → IsWithinUnit size (terms_of (octant_of z) count p q)

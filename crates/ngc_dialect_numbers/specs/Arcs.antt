-- Arc tangents, arc sines and arc cosines in degrees, in units of 10^-12. They are computed in units of 10^-18 and rounded once.
use Rattle.std.specs.Prelude.{ℕ, zero, suc, ◌+◌, ◌-◌, ◌*◌, ◌/◌, ◌%◌, ◌^◌, ◌≤◌, ◌==◌, nat_lt, nat_le, List, [], ◌∷◌}
use Rattle.std.specs.Prelude.{if◌then◌else◌, ℤ, pos, ◌*ℤ◌, unsigned_abs, slice_index, Result, Ok, Err}
use Rattle.ngc_fixed_length.specs.Signed.{is_negative}
use Rattle.ngc_fixed_length.specs.Roots.{whole_root}
use Rattle.ngc_dialect_numbers.specs.declared.fault.NoValue.{NoValue}
use Rattle.ngc_dialect_numbers.specs.declared.fault.NoValue.TheVariants.{BeyondOne}
use Rattle.ngc_dialect_numbers.specs.Numbers.{ONE}
use Rattle.ngc_dialect_numbers.specs.Series.{WIDE}
use Rattle.ngc_dialect_numbers.specs.Circles.{narrow}

abbrev pub IsCoordinate : ℤ → Type 0
IsCoordinate z = unsigned_abs z ≤ 10 ^ 21

-- nine decimals of a fraction
abbrev pub nine_decimals : ℕ → ℕ → ℕ
nine_decimals top bottom = top * 1000000000 / bottom

-- and nine more
abbrev pub wide_ratio : ℕ → ℕ → ℕ
wide_ratio top bottom =
    nine_decimals top bottom * 1000000000 + nine_decimals (top * 1000000000 % bottom) bottom

abbrev pub term : ℕ → ℕ → ℕ → ℕ
term odd square rest = WIDE / odd - rest * square / WIDE

-- 1/k - s (1/(k+2) - s (1/(k+4) - ..)) with this number of terms
abbrev pub series : ℕ → ℕ → ℕ → ℕ
series zero k square = 0
series (suc count) k square = term k square (series count (k + 2) square)

-- x - x^3/3 + x^5/5 - .., in degrees
unfoldable pub series_degrees : ℕ → ℕ
series_degrees ratio =
    ratio * series 10 1 (ratio * ratio / WIDE) / WIDE * 180000000000000000000 / 3141592653589793238

-- the arc tangents of 0, 1/8 .. 1
abbrev pub eighths : List ℕ
eighths =
    0 ∷ 7125016348901797562 ∷ 14036243467926478583 ∷ 20556045219583464308 ∷ 26565051177077989352 ∷ 32005383208083495561 ∷
    36869897645844021297 ∷ 41185925165709645805 ∷ 45000000000000000000 ∷ []

-- The arc tangent of y / x, which is at most 1, is that of k / 8 and that of (8 y - k x) / (8 x + k y).
abbrev pub low_arc : ℕ → ℕ → ℕ
low_arc y x =
    slice_index eighths (8 * y / x) + series_degrees (wide_ratio (8 * y % x) (8 * x + 8 * y / x * y))

-- the angle of a point in the first quarter
abbrev pub quarter_arc : ℕ → ℕ → ℕ
quarter_arc y x =
    if nat_lt x y then 90000000000000000000 - low_arc x y else (if x == 0 then 0 else low_arc y x)

abbrev pub half_arc : ℤ → ℤ → ℕ
half_arc y x =
    if is_negative x
    then 180000000000000000000 - quarter_arc (unsigned_abs y) (unsigned_abs x)
    else quarter_arc (unsigned_abs y) (unsigned_abs x)

-- the angle of any point
abbrev pub arc : ℤ → ℤ → ℤ
arc y x = narrow (is_negative y) (half_arc y x)

-- the root of 1 - x^2 in units of 10^-18
abbrev pub other_side : ℕ → ℕ
other_side x = whole_root ((ONE * ONE - x * x) * ONE)

abbrev pub arc_sine : ℤ → Result ℤ NoValue
arc_sine x =
    if nat_lt ONE (unsigned_abs x) then Err BeyondOne
    else Ok (arc (x *ℤ pos 1000000) (pos (other_side (unsigned_abs x))))

abbrev pub arc_cosine : ℤ → Result ℤ NoValue
arc_cosine x =
    if nat_lt ONE (unsigned_abs x) then Err BeyondOne
    else Ok (arc (pos (other_side (unsigned_abs x))) (x *ℤ pos 1000000))

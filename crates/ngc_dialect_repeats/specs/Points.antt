-- Points by their distance from the origin and their angle (LinuxCNC's documentation, "Polar
-- Coordinates"). Distances are in units of 10^-12 mm, angles in units of 10^-12 degrees, and places in
-- nanometres. The rounding is our own.
use Rattle.std.specs.Prelude.{ℕ, ◌+◌, ◌*◌, ℤ, pos, ◌*ℤ◌, unsigned_abs, Bool, true, ◌&&◌, Option, Some, None}
use Rattle.std.specs.Prelude.{Result, Ok, Err, if◌then◌else◌}
use Rattle.std.specs.Int.{int_rem_euclid}
use Rattle.ngc_fixed_length.specs.Roots.{whole_root}
use Rattle.ngc_fixed_length.specs.Rounding.{nearest}
use Rattle.ngc_fixed_length.specs.Signed.{is_negative, same}
use Rattle.ngc_fixed_length.specs.declared.points.Point2.{Point2}
use Rattle.ngc_fixed_length.specs.declared.units.Units.{Units}
use Rattle.ngc_fixed_length.specs.declared.units.Units.TheVariants.{Millimetres, Inches}
use Rattle.ngc_dialect_numbers.specs.Arcs.{arc}
use Rattle.ngc_dialect_numbers.specs.Circles.{TURN, cosine, sine}
use Rattle.ngc_dialect_numbers.specs.Numbers.{ONE, product}
use Rattle.ngc_dialect_numbers.specs.declared.fault.NoValue.{NoValue}
use Rattle.ngc_dialect_parameters.specs.declared.statement.Word.{Word}
use Rattle.ngc_dialect_repeats.specs.declared.point.PolarEnd.{PolarEnd}
use Rattle.ngc_dialect_repeats.specs.declared.point.PolarPoint.{PolarPoint}
use Rattle.ngc_dialect_repeats.specs.declared.refusal.PolarRefusal.{PolarRefusal}
use Rattle.ngc_dialect_repeats.specs.declared.refusal.PolarRefusal.TheVariants as why
use Rattle.ngc_dialect_repeats.specs.Refusals.{◌>>=◌, length, number}

abbrev pub square : ℤ → ℕ
square z = unsigned_abs z * unsigned_abs z

abbrev pub direction : ℤ → ℤ → ℤ
direction u v = arc v u

-- rounded down
abbrev pub distance_of : Point2 → ℤ
distance_of p = pos (whole_root ((square p.u + square p.v) * ONE))

-- a point's distance and angle
unfoldable pub seen_at : Point2 → PolarPoint
seen_at p = record { distance = distance_of p; angle = direction p.u p.v }

-- the same, or those of the last polar words, if they led there
abbrev pub is_same_place : Point2 → Point2 → Bool
is_same_place p q = same p.u q.u && same p.v q.v

abbrev pub seen_from : Option PolarEnd → Point2 → PolarPoint
seen_from None place = seen_at place
seen_from (Some end) place = if is_same_place end.place place then end.point else seen_at place

-- a length of a program in units of 10^-12 mm
abbrev pub in_millimetres : Units → ℤ → Result ℤ PolarRefusal
in_millimetres Millimetres v = Ok v
in_millimetres Inches v = number (nearest (v *ℤ pos 254) (pos 10))

-- ---- the point at a distance and an angle

-- to the nanometre
abbrev pub rounded : Result ℤ NoValue → Result ℤ PolarRefusal
rounded (Ok p) = length (nearest p (pos 1000000))
rounded (Err e) = Err why.TooFar

abbrev pub coordinate : ℤ → ℤ → Result ℤ PolarRefusal
coordinate distance share = rounded (product distance share)

unfoldable pub point_facing : ℤ → ℤ → Result Point2 PolarRefusal
point_facing distance angle = do
  u ← coordinate distance (cosine angle)
  v ← coordinate distance (sine angle)
  Ok (record { u = u; v = v })

unfoldable pub point_at : ℤ → ℤ → Result Point2 PolarRefusal
point_at distance angle =
    if is_negative distance then Err why.BelowZero
    else number distance >>= λ d. point_facing d (int_rem_euclid angle (pos TURN))

-- ---- a length as a program has it

abbrev pub in_program : Units → ℤ → ℤ
in_program Millimetres nm = nm *ℤ pos 1000000
in_program Inches nm = nearest (nm *ℤ pos 1000000000000) (pos 25400000)

abbrev pub length_word : Units → ℕ → ℤ → Word
length_word units letter nm =
    record { letter = letter; value = in_program units nm; point = true }

-- Places beside the programmed path (LinuxCNC's documentation, "Cutter Radius Compensation": the
-- path is offset by the tool's radius). The rounding is our own: each coordinate is rounded once.
use Rattle.std.specs.Prelude.{ℕ, ◌+◌, ◌*◌, ◌/◌, ℤ, pos, ◌+ℤ◌, neg_ℤ, unsigned_abs, Bool, ◌&&◌}
use Rattle.std.specs.Prelude.{Option, Some, None, if◌then◌else◌}
use Rattle.ngc_fixed_length.specs.Places.{shifted}
use Rattle.ngc_fixed_length.specs.Roots.{whole_root}
use Rattle.ngc_fixed_length.specs.Signed.{is_negative, is_within}
use Rattle.ngc_fixed_length.specs.declared.points.Point2.{Point2}
use Rattle.ngc_compensation.specs.Sides.{norm}

-- the length of a unit vector, 5*10^8
abbrev pub UNIT : ℕ
UNIT = 500000000

-- programmed places are within 4 m on each axis, the tool's within 5 m
abbrev pub PLACE_LIMIT : ℕ
PLACE_LIMIT = 4000000000

abbrev pub TOOL_LIMIT : ℕ
TOOL_LIMIT = 5000000000

abbrev pub is_near : ℕ → Point2 → Bool
is_near limit p = is_within limit p.u && is_within limit p.v

-- the whole number nearest to n * x / √square, ties upwards
abbrev pub part_size : ℕ → ℕ → ℕ → ℕ
part_size n x square = (whole_root ((2 * n * x) * (2 * n * x) / square) + 1) / 2

abbrev pub with_sign : ℤ → ℕ → ℤ
with_sign x size = if is_negative x then neg_ℤ (pos size) else pos size

abbrev pub part : ℕ → ℤ → ℕ → ℤ
part n x square = with_sign x (part_size n (unsigned_abs x) square)

-- the vector of length n in the direction d: each coordinate is the nearest one, ties away from
-- zero
unfoldable pub scaled : ℕ → Point2 → Point2
scaled n d = record { u = part n d.u (norm d); v = part n d.v (norm d) }

-- the place at the distance r from p in the direction d
abbrev pub beside : Point2 → ℕ → Point2 → Point2
beside p r d = shifted p (scaled r d)

-- the point with two coordinates, if it is within the tool's limit
unfoldable pub within_limit : ℤ → ℤ → Option Point2
within_limit u v =
    if is_within TOOL_LIMIT u && is_within TOOL_LIMIT v
    then Some (record { u = u; v = v }) else None

-- the point at the distances u and v from p
abbrev pub reached : Point2 → ℤ → ℤ → Option Point2
reached p u v = within_limit (p.u +ℤ u) (p.v +ℤ v)

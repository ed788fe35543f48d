-- Where the tool's paths on both sides of an inside corner meet (LinuxCNC's documentation, "Cutter
-- Radius Compensation"). Each coordinate is rounded to the nearest nanometre. Our own.
use Rattle.std.specs.Prelude.{ℕ, ◌-◌, ◌*◌, ◌==◌, nat_lt, ℤ, pos, ◌+ℤ◌, ◌-ℤ◌, ◌*ℤ◌, unsigned_abs}
use Rattle.std.specs.Prelude.{Option, Some, None, if◌then◌else◌}
use Rattle.ngc_fixed_length.specs.Places.{from, cross, dot}
use Rattle.ngc_fixed_length.specs.Roots.{whole_root}
use Rattle.ngc_fixed_length.specs.Rounding.{nearest}
use Rattle.ngc_fixed_length.specs.Signed.{is_zero}
use Rattle.ngc_fixed_length.specs.declared.points.Point2.{Point2}
use Rattle.ngc_compensation.specs.declared.moves.Side.{Side}
use Rattle.ngc_compensation.specs.Sides.{turned, apart}
use Rattle.ngc_compensation.specs.Offsets.{UNIT, scaled, reached}

-- the point at the distance r from o along both unit vectors a and b, which span an area: r beside
-- both lines
unfoldable pub crossed : Point2 → ℕ → Point2 → Point2 → ℤ → Option Point2
crossed o r a b area =
    reached o (nearest ((b.v -ℤ a.v) *ℤ pos (r * UNIT)) area)
    (nearest ((a.u -ℤ b.u) *ℤ pos (r * UNIT)) area)

abbrev pub crossing : Point2 → ℕ → Point2 → Point2 → Option Point2
crossing o r a b = if is_zero (cross a b) then None else crossed o r a b (cross a b)

unfoldable pub lines_meet : Point2 → ℕ → Point2 → Point2 → Option Point2
lines_meet o r first second = crossing o r (scaled UNIT first) (scaled UNIT second)

-- half the chord that a line at the distance h / UNIT from the centre has in a circle, in units of
-- 1 / UNIT; the circle's radius has this square
abbrev pub half_chord : ℕ → ℤ → Option ℕ
half_chord square h =
    if nat_lt (square * (UNIT * UNIT)) (unsigned_abs h * unsigned_abs h) then None
    else Some (whole_root (square * (UNIT * UNIT) - unsigned_abs h * unsigned_abs h))

-- the point at h along the unit vector n and at s along d, in units of 1 / UNIT
abbrev pub at_chord : Point2 → Point2 → ℤ → Point2 → Option ℕ → Option Point2
at_chord c n h d None = None
at_chord c n h d (Some s) =
    reached c (nearest ((n.u *ℤ h) +ℤ (d.u *ℤ pos s)) (pos (UNIT * UNIT)))
    (nearest ((n.v *ℤ h) +ℤ (d.v *ℤ pos s)) (pos (UNIT * UNIT)))

-- the point of a circle about c on the line that is square to n at the distance h / UNIT, on a side
-- of n
unfoldable pub on_circle : Point2 → ℕ → Point2 → ℤ → Side → Option Point2
on_circle c square n h side = at_chord c n h (turned side n) (half_chord square h)

-- the line lies r beside o in a direction
abbrev pub line_at : Point2 → ℕ → Point2 → Point2 → ℤ
line_at o r n c = pos (r * UNIT) +ℤ dot n (from c o)

unfoldable pub line_meets : Point2 → ℕ → Point2 → Point2 → ℕ → Side → Option Point2
line_meets o r direction c square side =
    on_circle c square (scaled UNIT direction) (line_at o r (scaled UNIT direction) c) side

-- the length in units of 1 / UNIT whose square is given
abbrev pub length_of : ℕ → ℕ
length_of square = whole_root (square * (UNIT * UNIT))

-- where the line through both points of intersection is, from the first centre towards the second;
-- the centres are apart by the root of distance
abbrev pub chord_at : ℕ → ℕ → ℕ → ℤ
chord_at first distance second =
    nearest (((pos first +ℤ pos distance) -ℤ pos second) *ℤ pos (UNIT * UNIT))
    (pos (2 * length_of distance))

unfoldable pub circles_meet : Point2 → ℕ → Point2 → ℕ → Side → Option Point2
circles_meet c first d second side =
    if apart c d == 0 then None
    else on_circle c first (scaled UNIT (from c d)) (chord_at first (apart c d) second) side

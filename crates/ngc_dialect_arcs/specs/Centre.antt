-- The centre of an arc, and how it is moved if the radii at start and end differ. Points are
-- vectors from the arc's start, in its plane and in nanometres. Our own.
use Rattle.std.specs.Prelude.{ℕ, ◌*◌, ◌==◌, nat_lt, nat_le, ℤ, pos, ◌+ℤ◌, ◌-ℤ◌, ◌*ℤ◌, unsigned_abs}
use Rattle.std.specs.Prelude.{Result, Ok, Err, Bool, not, ◌&&◌, ◌||◌, true, if◌then◌else◌}
use Rattle.std.specs.Int.{int_div_euclid}
use Rattle.ngc_fixed_length.specs.Places.{at_height, zero_point}
use Rattle.ngc_fixed_length.specs.Signed.{is_zero, is_within}
use Rattle.ngc_fixed_length.specs.declared.modes.Plane.TheVariants.{XY}
use Rattle.ngc_fixed_length.specs.declared.modes.Turn.{Turn}
use Rattle.ngc_fixed_length.specs.declared.points.Point2.{Point2}
use Rattle.ngc_fixed_length.specs.declared.units.Units.{Units}
use Rattle.ngc_arc_geometry.specs.Centre.{reach, radius_format}
use Rattle.ngc_arc_geometry.specs.Radii.{squared_distance, roots_within, SQUARE_LIMIT}
use Rattle.ngc_arc_geometry.specs.Shape.{ArcShape}
use Rattle.ngc_arc_geometry.specs.Tolerance.{tolerance}
use Rattle.ngc_arc_geometry.specs.declared.fault.ArcFault.{ArcFault}
use Rattle.ngc_arc_geometry.specs.declared.given.Ends.{Ends}
use Rattle.ngc_dialect_names.specs.declared.dialect.Dialect.{Dialect}
use Rattle.ngc_dialect_arcs.specs.declared.refusal.ArcRefusal.{ArcRefusal}
use Rattle.ngc_dialect_arcs.specs.declared.refusal.ArcRefusal.TheVariants as why
use Rattle.ngc_dialect_arcs.specs.Limits.{least_radius, slack, may_differ}
use Rattle.ngc_dialect_arcs.specs.Refusals.{◌>>=◌, refuse_if, length}

-- the start itself
abbrev pub here : Point2
here = record { u = pos 0; v = pos 0 }

-- the squares of the radii at start and end, and of the distance between start and end
abbrev pub start_square : Point2 → ℕ
start_square centre = squared_distance centre here

abbrev pub end_square : Point2 → Point2 → ℕ
end_square end centre = squared_distance centre end

abbrev pub chord_square : Point2 → ℕ
chord_square end = squared_distance here end

-- ---- which radii are in range

-- neither radius is below the least one or above 2*10^9 nm
abbrev pub is_in_range : ℕ → ℕ → Bool
is_in_range least square = nat_le (least * least) square && nat_le square SQUARE_LIMIT

abbrev pub in_range : ℕ → Point2 → Point2 → Result Point2 ArcRefusal
in_range least end centre =
    if is_in_range least (start_square centre) && is_in_range least (end_square end centre)
    then Ok centre else Err why.RadiusOutOfRange

-- ---- the evened centre

-- by how much the square of the radius at the end exceeds that at the start
abbrev pub excess : Point2 → Point2 → ℤ
excess end centre = pos (end_square end centre) -ℤ pos (start_square centre)

-- part * excess / (2 * chord), rounded to the nearest whole number
unfoldable pub shift_by : ℤ → ℤ → ℕ → ℤ
shift_by part excess chord =
    int_div_euclid ((part *ℤ excess) +ℤ pos chord) (pos (2 * chord))

-- how far the centre moves along an axis, on which the end is at part: at right angles to the
-- bisector of start and end, up to it
abbrev pub shift : ℤ → Point2 → Point2 → ℤ
shift part end centre = shift_by part (excess end centre) (chord_square end)

-- the centre moves by at most 0.025 mm along each axis
abbrev pub SHIFT_LIMIT : ℕ
SHIFT_LIMIT = 25000

abbrev pub moved : ℤ → ℤ → Result ℤ ArcRefusal
moved by part =
    if is_within SHIFT_LIMIT by then length (part +ℤ by) else Err why.RadiiDiffer

-- the centre from which start and end are alike
unfoldable pub evened : Point2 → Point2 → Result Point2 ArcRefusal
evened end centre = do
  u ← moved (shift end.u end centre) centre.u
  v ← moved (shift end.v end centre) centre.v
  in_range 1 end (record { u = u; v = v })

-- whether our own language takes the radii, if it is written in these units; those of a full circle
-- are the same
abbrev pub is_even : Units → Point2 → Point2 → Bool
is_even written end centre =
    (chord_square end == 0)
    || roots_within (tolerance written) (start_square centre) (end_square end centre)

-- the centre of an arc in our own language: as it is given, or evened
unfoldable pub settled : Dialect → Units → Units → Point2 → Point2 → Result Point2 ArcRefusal
settled d units written end given = do
  centre ← in_range (least_radius d) end given
  alike ← refuse_if (not (may_differ d units (start_square centre) (end_square end centre)))
      why.RadiiDiffer
  if is_even written end centre then Ok centre else evened end centre

-- ---- the centre by R, as in our own language

abbrev pub ends_of : Turn → Point2 → Ends
ends_of turn end = record {
  plane = XY;
  turn = turn;
  start = zero_point;
  end = at_height XY end (pos 0);
  has_axis_word = true;
}

abbrev pub centre_found : Point2 → Result ArcShape ArcFault → Result Point2 ArcRefusal
centre_found end (Ok a) = in_range 1 end a.centre
centre_found end (Err e) = Err why.RadiusOutOfRange

abbrev pub is_radius : ℤ → Bool
is_radius r = not (is_zero r) && nat_le (unsigned_abs r * unsigned_abs r) SQUARE_LIMIT

abbrev pub is_too_short : Dialect → ℤ → ℕ → Bool
is_too_short d r chord = nat_lt (reach (unsigned_abs r) (slack d)) chord

unfoldable pub by_radius : Dialect → Units → Turn → Point2 → ℤ → Result Point2 ArcRefusal
by_radius d written turn end r = do
  apart ← refuse_if (chord_square end == 0) why.EndIsStart
  sized ← refuse_if (not (is_radius r)) why.RadiusOutOfRange
  long ← refuse_if (is_too_short d r (chord_square end)) why.RadiusTooSmall
  centre_found end (radius_format written (ends_of turn end) r)

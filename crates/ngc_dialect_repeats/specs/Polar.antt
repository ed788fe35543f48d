-- Lines with polar words, as lines with X and Y (LinuxCNC's documentation, "Polar Coordinates"). The
-- words are @, a distance from the origin, and ^, an angle in degrees; in G91 both are added to those of
-- the current point. At the origin, which has no angle, they are refused where they need its angle. In G91
-- a canned cycle's L repeats them. Which codes may not be beside them is our own.
use Rattle.std.specs.Prelude.{ℕ, zero, suc, ◌+◌, ◌-◌, ◌*◌, ◌/◌, ◌%◌, ◌==◌, nat_lt, nat_le, ℤ, pos, ◌+ℤ◌, ◌-ℤ◌, ◌*ℤ◌, unsigned_abs, int_lt}
use Rattle.std.specs.Prelude.{Bool, true, false, not, ◌&&◌, ◌||◌, List, [], Option, Some, None, is_none, Result, Ok, Err, count_by, if◌then◌else◌}
use Rattle.std.specs.Int.{int_rem_euclid}
use Rattle.std.specs.List.{list_any}
use Rattle.ngc_fixed_length.specs.Signed.{is_negative, is_zero}
use Rattle.ngc_fixed_length.specs.declared.modes.Distance.{Distance}
use Rattle.ngc_fixed_length.specs.declared.modes.Distance.TheVariants.{Absolute, Incremental}
use Rattle.ngc_fixed_length.specs.declared.modes.Plane.{Plane}
use Rattle.ngc_fixed_length.specs.declared.modes.Plane.TheVariants.{XY, ZX, YZ}
use Rattle.ngc_fixed_length.specs.declared.points.Point2.{Point2}
use Rattle.ngc_fixed_length.specs.declared.points.Point3.{Point3}
use Rattle.ngc_dialect_numbers.specs.Circles.{TURN}
use Rattle.ngc_dialect_parameters.specs.declared.statement.Word.{Word}
use Rattle.ngc_dialect_rules.specs.declared.code.Code.{Code}
use Rattle.ngc_dialect_rules.specs.declared.codes.TheConstants as codes
use Rattle.ngc_dialect_rules.specs.declared.front.Known.{Known}
use Rattle.ngc_dialect_rules.specs.Bytes as bytes
use Rattle.ngc_dialect_rules.specs.Force.{units_by}
use Rattle.ngc_dialect_rules.specs.Tables.{code_in, is_among, or_else}
use Rattle.ngc_dialect_rules.specs.Words.{codes_of, has_letter, value_of}
use Rattle.ngc_dialect_repeats.specs.declared.kept.Kept.{Kept}
use Rattle.ngc_dialect_repeats.specs.declared.kept.Kept.TheVariants as kept
use Rattle.ngc_dialect_repeats.specs.declared.kept.WordLine.{WordLine}
use Rattle.ngc_dialect_repeats.specs.declared.point.PolarEnd.{PolarEnd}
use Rattle.ngc_dialect_repeats.specs.declared.point.PolarPoint.{PolarPoint}
use Rattle.ngc_dialect_repeats.specs.declared.polar.PolarLine.{PolarLine}
use Rattle.ngc_dialect_repeats.specs.declared.refusal.PolarFault.{PolarFault}
use Rattle.ngc_dialect_repeats.specs.declared.refusal.PolarRefusal.{PolarRefusal}
use Rattle.ngc_dialect_repeats.specs.declared.refusal.PolarRefusal.TheVariants as why
use Rattle.ngc_dialect_repeats.specs.Barred.{bars_polar}
use Rattle.ngc_dialect_repeats.specs.Kept.{is_polar}
use Rattle.ngc_dialect_repeats.specs.Places.{program_place}
use Rattle.ngc_dialect_repeats.specs.Points.{in_millimetres, length_word, point_at, seen_from}
use Rattle.ngc_dialect_repeats.specs.Refusals.{◌>>=◌, number, refuse_of, refused, ruled}

abbrev pub has_polar : List Word → Bool
has_polar words = list_any (λ (w : Word). is_polar w.letter) words

-- ---- what may not be beside them

abbrev pub letters : ℕ → List Word → ℕ
letters letter words = count_by (λ (w : Word). w.letter == letter) words

abbrev pub is_xy_plane : Plane → Bool
is_xy_plane XY = true
is_xy_plane _ = false

abbrev pub is_xy : Plane → Option Code → Bool
is_xy before None = is_xy_plane before
is_xy before (Some code) = not (is_among codes.PLANE_ZX code) && not (is_among codes.PLANE_YZ code)

unfoldable pub line_fault : Known → List Code → List Word → Option PolarRefusal
line_fault k line words =
    if nat_lt 1 (letters bytes.AT words) || nat_lt 1 (letters bytes.CARET words) then Some why.Twice else (
    if has_letter bytes.X words || has_letter bytes.Y words then Some why.AxisBeside else (
    if bars_polar line then Some why.CodeBeside else (
    if not (is_xy k.modes.plane (code_in codes.PLANES line)) then Some why.OtherPlane else None)))

-- ---- where they lead

abbrev pub is_relative : Distance → Bool
is_relative Absolute = false
is_relative Incremental = true

abbrev pub is_incremental : Distance → Option Code → Bool
is_incremental before None = is_relative before
is_incremental before (Some code) = is_among codes.INCREMENTAL code

abbrev pub or_zero : Option ℤ → ℤ
or_zero None = pos 0
or_zero (Some v) = v

abbrev pub value_or_zero : ℕ → List Word → ℤ
value_or_zero letter words = or_zero (value_of letter words)

-- in G90 what has no word stays as it is at the current point
abbrev pub unless_given : Bool → ℕ → ℤ → List Word → ℤ
unless_given incremental letter here words =
    if not incremental && has_letter letter words then pos 0 else here

abbrev pub start_of : Bool → PolarPoint → List Word → PolarPoint
start_of incremental here words = record {
  distance = unless_given incremental bytes.AT here.distance words;
  angle = unless_given incremental bytes.CARET here.angle words;
}

abbrev pub is_cycle : Option Code → Bool
is_cycle None = false
is_cycle (Some code) = is_among codes.CYCLES code

abbrev pub motion_after : Known → List Code → Option Code
motion_after k line = or_else (code_in codes.MOTIONS line) k.front.motion

-- L from 2 to 9,999; any other is left to the rules of cycles
abbrev pub is_count : ℕ → ℕ → Bool
is_count limit size =
    nat_le 2000000000000 size && nat_le size limit && (size % 1000000000000 == 0)

abbrev pub hole_count : Option ℤ → ℕ
hole_count None = 1
hole_count (Some v) =
    if is_negative v || not (is_count 9999000000000000 (unsigned_abs v)) then 1
    else unsigned_abs v / 1000000000000

abbrev pub count_of : Known → List Code → List Word → Bool → ℕ
count_of k line words incremental =
    if incremental && is_cycle (motion_after k line) then hole_count (value_of bytes.L words) else 1

abbrev pub is_at_origin : PolarPoint → Bool
is_at_origin p = is_zero p.distance

-- in G91 the words count from the current point, and @ without ^ keeps its angle
abbrev pub needs_angle : Bool → List Word → Bool
needs_angle incremental words =
    incremental || (has_letter bytes.AT words && not (has_letter bytes.CARET words))

abbrev pub polar_from : Known → PolarPoint → List Code → List Word → Bool → Point2 → ℤ → PolarLine
polar_from k seen line words incremental here distance = record {
  units = units_by k.modes.units (code_in codes.UNITS line);
  is_incremental = incremental;
  here = here;
  start = start_of incremental seen words;
  step = record { distance = distance; angle = value_or_zero bytes.CARET words };
  count = count_of k line words incremental;
}

abbrev pub polar_here : Known → PolarPoint → List Code → List Word → Bool → Point2 → Result PolarLine PolarRefusal
polar_here k seen line words incremental here =
    if is_at_origin seen && needs_angle incremental words then Err why.AtOrigin
    else in_millimetres (units_by k.modes.units (code_in codes.UNITS line))
    (value_or_zero bytes.AT words)
    >>= λ distance. Ok (polar_from k seen line words incremental here distance)

abbrev pub place_of : Point3 → Point2
place_of p = record { u = p.x; v = p.y }

unfoldable pub polar_by : Known → Option PolarEnd → List Code → List Word → Result PolarLine PolarRefusal
polar_by k last line words = do
  fine ← refuse_of (line_fault k line words)
  place ← program_place k
  polar_here k (seen_from last (place_of place)) line words
      (is_incremental k.modes.distance (code_in codes.DISTANCES line)) (place_of place)

unfoldable pub polar_line : Known → Option PolarEnd → List Word → Result PolarLine PolarFault
polar_line k last words = do
  line ← ruled (codes_of k.dialect words [])
  refused (polar_by k last line words)

-- ---- the lines

-- which of the lines it is, where some are left with it
abbrev pub made_with : ℕ → ℕ → ℕ
made_with count left = (count - left) + 1

abbrev pub sum : ℤ → ℕ → ℤ → ℤ
sum start times step = start +ℤ pos times *ℤ step

abbrev pub reached : PolarLine → ℕ → Result Point2 PolarRefusal
reached p made =
    point_at (sum p.start.distance made p.step.distance) (sum p.start.angle made p.step.angle)

-- its distance and its angle
unfoldable pub point_of : PolarLine → ℕ → Result PolarPoint PolarRefusal
point_of p made = do
  distance ← number (sum p.start.distance made p.step.distance)
  Ok (record {
    distance = distance;
    angle = int_rem_euclid (sum p.start.angle made p.step.angle) (pos TURN);
  })

-- where the last line leads
abbrev pub found_end : PolarLine → Result PolarEnd PolarRefusal
found_end p = do
  place ← reached p p.count
  point ← point_of p p.count
  Ok (record { place = place; point = point })

abbrev pub accepted : Result PolarEnd PolarRefusal → Option PolarEnd
accepted (Ok end) = Some end
accepted (Err e) = None

abbrev pub end_of : PolarLine → Option PolarEnd
end_of p = accepted (found_end p)

abbrev pub origin : Point2
origin = record { u = pos 0; v = pos 0 }

-- from where X and Y count
abbrev pub base : PolarLine → ℕ → Result Point2 PolarRefusal
base p made =
    if not p.is_incremental then Ok origin else (
    if nat_le made 1 then Ok p.here else reached p (made - 1))

abbrev pub kept_at : PolarLine → ℕ → Kept
kept_at p made =
    if nat_lt 1 made then kept.Nothing else (
    if nat_lt 1 p.count then kept.NotPolarOrHoles else kept.NotPolar)

unfoldable pub polar_step : PolarLine → ℕ → Result WordLine PolarRefusal
polar_step p left = do
  to ← reached p (made_with p.count left)
  from ← base p (made_with p.count left)
  Ok (record {
    first = Some (length_word p.units bytes.X (to.u -ℤ from.u));
    second = Some (length_word p.units bytes.Y (to.v -ℤ from.v));
    third = None;
    kept = kept_at p (made_with p.count left);
  })

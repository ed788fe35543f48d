-- Arcs of several turns (LinuxCNC's documentation, "G2, G3": P counts the turns with the last one). The
-- turns before the last are full circles, and the height changes evenly with the angle. By R they are
-- circles about the centre of the arc of one turn, as in LinuxCNC. Which lines are taken, and the rounding
-- of heights to the nanometre, are our own.
use Rattle.std.specs.Prelude.{ℕ, ◌+◌, ◌-◌, ◌*◌, ◌/◌, ◌%◌, ◌==◌, nat_lt, nat_le, ℤ, pos, ◌+ℤ◌, ◌-ℤ◌, ◌*ℤ◌, unsigned_abs, int_lt}
use Rattle.std.specs.Prelude.{Bool, true, false, not, ◌&&◌, ◌||◌, List, [], Option, Some, None, Result, Ok, Err, if◌then◌else◌}
use Rattle.std.specs.Int.{int_rem_euclid}
use Rattle.ngc_fixed_length.specs.Places.{in_plane, height as height_in}
use Rattle.ngc_fixed_length.specs.Rounding.{nearest}
use Rattle.ngc_fixed_length.specs.Signed.{is_negative}
use Rattle.ngc_fixed_length.specs.declared.modes.FeedMode.{FeedMode}
use Rattle.ngc_fixed_length.specs.declared.modes.FeedMode.TheVariants.{PerMinute, InverseTime}
use Rattle.ngc_fixed_length.specs.declared.modes.Plane.{Plane}
use Rattle.ngc_fixed_length.specs.declared.modes.Plane.TheVariants.{XY, ZX, YZ}
use Rattle.ngc_fixed_length.specs.declared.points.Point2.{Point2}
use Rattle.ngc_fixed_length.specs.declared.points.Point3.{Point3}
use Rattle.ngc_fixed_length.specs.declared.units.Units.{Units}
use Rattle.ngc_dialect_names.specs.declared.dialect.Dialect.{Dialect}
use Rattle.ngc_dialect_arcs.specs.Centre.{by_radius}
use Rattle.ngc_dialect_arcs.specs.Lines.{counts_turns}
use Rattle.ngc_dialect_arcs.specs.declared.refusal.ArcRefusal.{ArcRefusal}
use Rattle.ngc_dialect_arcs.specs.declared.refusal.ArcRefusal.TheVariants as arcs
use Rattle.ngc_dialect_numbers.specs.Circles.{TURN}
use Rattle.ngc_dialect_parameters.specs.declared.statement.Word.{Word}
use Rattle.ngc_dialect_rules.specs.declared.code.Code.{Code}
use Rattle.ngc_dialect_rules.specs.declared.codes.TheConstants as codes
use Rattle.ngc_dialect_rules.specs.declared.fault.Fault.{Fault}
use Rattle.ngc_dialect_rules.specs.declared.front.Known.{Known}
use Rattle.ngc_dialect_rules.specs.Arcs.{plane_by, turn_of}
use Rattle.ngc_dialect_rules.specs.Bytes as bytes
use Rattle.ngc_dialect_rules.specs.Force.{centres_by as centres_after, units_by}
use Rattle.ngc_dialect_rules.specs.Lengths.{word_length}
use Rattle.ngc_dialect_rules.specs.Tables.{code_in, is_among, or_else}
use Rattle.ngc_dialect_rules.specs.Words.{codes_of, has_letter, value_of}
use Rattle.ngc_dialect_repeats.specs.declared.kept.Kept.{Kept}
use Rattle.ngc_dialect_repeats.specs.declared.kept.Kept.TheVariants as kept
use Rattle.ngc_dialect_repeats.specs.declared.kept.WordLine.{WordLine}
use Rattle.ngc_dialect_repeats.specs.declared.refusal.PolarRefusal.{PolarRefusal}
use Rattle.ngc_dialect_repeats.specs.declared.refusal.PolarRefusal.TheVariants as why
use Rattle.ngc_dialect_repeats.specs.declared.turns.ArcModes.{ArcModes}
use Rattle.ngc_dialect_repeats.specs.declared.turns.Height.{Height}
use Rattle.ngc_dialect_repeats.specs.declared.turns.OffsetWords.{OffsetWords}
use Rattle.ngc_dialect_repeats.specs.declared.turns.Turning.{Turning}
use Rattle.ngc_dialect_repeats.specs.Barred.{bars_turns}
use Rattle.ngc_dialect_repeats.specs.Places.{program_place}
use Rattle.ngc_dialect_repeats.specs.Points.{direction, length_word}
use Rattle.ngc_dialect_repeats.specs.Polar.{is_count, is_incremental, made_with}
use Rattle.ngc_dialect_repeats.specs.Refusals.{◌>>=◌, length}

-- ---- which lines

-- P from 2 to 1,000; any other is left to the rules of arcs
abbrev pub turn_count : Option ℤ → Option ℕ
turn_count None = None
turn_count (Some v) =
    if is_negative v || not (is_count 1000000000000000 (unsigned_abs v)) then None
    else Some (unsigned_abs v / 1000000000000)

abbrev pub has_offsets : List Word → Bool
has_offsets words =
    has_letter bytes.I words || has_letter bytes.J words || has_letter bytes.K words

abbrev pub arc_of : Option Code → Option Code
arc_of None = None
arc_of (Some code) = if is_among codes.ARCS code then Some code else None

-- an arc by offsets or by R, not by both
abbrev pub has_one_centre : List Word → Bool
has_one_centre words =
    if has_letter bytes.R words then not (has_offsets words) else has_offsets words

abbrev pub arc_code : Known → List Code → List Word → Option Code
arc_code k line words =
    if not (has_one_centre words) then None
    else arc_of (or_else (code_in codes.MOTIONS line) k.front.motion)

abbrev pub is_minute : FeedMode → Bool
is_minute PerMinute = true
is_minute InverseTime = false

abbrev pub is_per_minute : FeedMode → Option Code → Bool
is_per_minute before None = is_minute before
is_per_minute before (Some code) = not (is_among codes.INVERSE_TIME code)

abbrev pub centres_by : Bool → Option Code → Bool
centres_by before code = centres_after before code

-- ---- the plane's letters

abbrev pub u_letter : Plane → ℕ
u_letter XY = bytes.X
u_letter ZX = bytes.Z
u_letter YZ = bytes.Y

abbrev pub v_letter : Plane → ℕ
v_letter XY = bytes.Y
v_letter ZX = bytes.X
v_letter YZ = bytes.Z

abbrev pub height_letter : Plane → ℕ
height_letter XY = bytes.Z
height_letter ZX = bytes.Y
height_letter YZ = bytes.X

abbrev pub offset_letter : ℕ → ℕ
offset_letter axis =
    if axis == bytes.X then bytes.I else (if axis == bytes.Y then bytes.J else bytes.K)

-- ---- where words lead

-- how far a word leads from a place
abbrev pub led : Bool → ℤ → Option ℤ → Result ℤ PolarRefusal
led relative start None = Ok (pos 0)
led relative start (Some w) = if relative then Ok w else length (w -ℤ start)

abbrev pub led_to : Bool → ℤ → Result (Option ℤ) Fault → Result ℤ PolarRefusal
led_to relative start (Ok word) = led relative start word
led_to relative start (Err e) = Err why.TooFar

abbrev pub led_by : Units → Bool → ℤ → ℕ → List Word → Result ℤ PolarRefusal
led_by units relative start letter words = led_to relative start (word_length units letter words)

abbrev pub vector : Units → Bool → Point2 → ℕ → ℕ → List Word → Result Point2 PolarRefusal
vector units relative start u v words = do
  along_u ← led_by units relative start.u u words
  along_v ← led_by units relative start.v v words
  Ok (record { u = along_u; v = along_v })

abbrev pub height_of : Units → Bool → ℤ → ℕ → List Word → Result (Option Height) PolarRefusal
height_of units relative start letter words =
    if not (has_letter letter words) then Ok None
    else led_by units relative start letter words >>= λ rise.
    Ok (Some (record { letter = letter; start = start; rise = rise }))

-- ---- angles

-- from one direction to another one, in units of 10^-12 degrees
abbrev pub angle_from : Bool → ℤ → ℤ → ℤ
angle_from counterclockwise start end =
    if counterclockwise then end -ℤ start else start -ℤ end

-- a turn in units of 10^-7 degrees
abbrev pub WHOLE : ℕ
WHOLE = 3600000000

abbrev pub part_in : ℤ → ℕ
part_in part =
    if not (int_lt (pos 0) part) || not (int_lt part (pos WHOLE)) then WHOLE else unsigned_abs part

-- the part of a turn that an angle is: a whole one if it is 0
abbrev pub turn_part : ℤ → ℕ
turn_part angle = part_in (nearest (int_rem_euclid angle (pos TURN)) (pos 100000))

-- the angle from start to end about a centre; both are vectors from the start
unfoldable pub last_turn : Bool → Point2 → Point2 → ℕ
last_turn counterclockwise end centre =
    turn_part (angle_from counterclockwise (direction (pos 0 -ℤ centre.u) (pos 0 -ℤ centre.v))
    (direction (end.u -ℤ centre.u) (end.v -ℤ centre.v)))

-- ---- the centre

abbrev pub modes_of : Known → List Code → ArcModes
modes_of k line = record {
  dialect = k.dialect;
  units = units_by k.modes.units (code_in codes.UNITS line);
  plane = plane_by k.modes.plane (code_in codes.PLANES line);
  is_incremental = is_incremental k.modes.distance (code_in codes.DISTANCES line);
  is_absolute_centre = centres_by k.front.absolute_centres (code_in codes.CENTRES line);
}

-- an arc of one turn may be refused
abbrev pub or_refused : Result Point2 ArcRefusal → Result Point2 PolarRefusal
or_refused (Ok centre) = Ok centre
or_refused (Err refusal) = Err (why.Arc refusal)

-- the vector from the start to the centre: by R that of the arc of one turn, or by the offsets
abbrev pub centre_by :
    ArcModes → Code → Point2 → Point2 → List Word → Option ℤ → Result Point2 PolarRefusal
centre_by m code start end words None =
    vector m.units (not m.is_absolute_centre) start (offset_letter (u_letter m.plane))
    (offset_letter (v_letter m.plane)) words
centre_by m code start end words (Some r) =
    or_refused (by_radius m.dialect m.units (turn_of code) end r)

-- an R that is no length is over 100 metres
abbrev pub centre_of :
    ArcModes → Code → Point2 → Point2 → List Word → Result (Option ℤ) Fault → Result Point2 PolarRefusal
centre_of m code start end words (Ok r) = centre_by m code start end words r
centre_of m code start end words (Err e) = Err (why.Arc arcs.TooFar)

-- the offset or the coordinate of a centre along an axis, as the line's modes read it
abbrev pub offset_word : ArcModes → ℕ → ℤ → ℤ → Word
offset_word m axis start offset =
    length_word m.units (offset_letter axis)
    (if m.is_absolute_centre then start +ℤ offset else offset)

abbrev pub offset_words : ArcModes → Point2 → Point2 → OffsetWords
offset_words m start centre = record {
  u = offset_word m (u_letter m.plane) start.u centre.u;
  v = offset_word m (v_letter m.plane) start.v centre.v;
}

-- the words of the centre of a full circle, where the line has R
abbrev pub circle_words : ArcModes → Point2 → Point2 → List Word → Option OffsetWords
circle_words m start centre words =
    if has_letter bytes.R words then Some (offset_words m start centre) else None

-- ---- the turns

unfoldable pub turning_with : ArcModes → Point3 → List Word → Code → ℕ → Result Turning PolarRefusal
turning_with m place words code count = do
  end ← vector m.units m.is_incremental (in_plane m.plane place) (u_letter m.plane)
      (v_letter m.plane) words
  centre ← centre_of m code (in_plane m.plane place) end words (word_length m.units bytes.R words)
  height ← height_of m.units m.is_incremental (height_in m.plane place) (height_letter m.plane) words
  Ok (record {
    units = m.units;
    is_incremental = m.is_incremental;
    count = count;
    last = last_turn (is_among codes.COUNTERCLOCKWISE code) end centre;
    height = height;
    circle = circle_words m (in_plane m.plane place) centre words;
  })

abbrev pub turning_here : Known → List Code → List Word → Code → ℕ → Result Turning PolarRefusal
turning_here k line words code count =
    program_place k >>= λ place. turning_with (modes_of k line) place words code count

-- a line whose turns are refused is left to the rules of arcs, which refuse it
abbrev pub accepted : {A E : Type 0} → Result A E → Option A
accepted (Ok x) = Some x
accepted (Err e) = None

abbrev pub turning_along : Known → List Code → List Word → ℕ → Option Code → Option Turning
turning_along k line words count None = None
turning_along k line words count (Some code) = accepted (turning_here k line words code count)

abbrev pub turning_by : Known → List Code → List Word → ℕ → Option Turning
turning_by k line words count =
    if bars_turns line
    || not (is_per_minute k.modes.feed_mode (code_in codes.FEED_MODES line)) then None
    else turning_along k line words count (arc_code k line words)

abbrev pub turning_among : Known → List Word → ℕ → Result (List Code) Fault → Option Turning
turning_among k words count (Ok line) = turning_by k line words count
turning_among k words count (Err e) = None

abbrev pub turning_on : Known → List Word → ℕ → Option Turning
turning_on k words count = turning_among k words count (codes_of k.dialect words [])

abbrev pub turning_if : Known → List Word → Option ℕ → Option Turning
turning_if k words None = None
turning_if k words (Some count) = turning_on k words count

-- the number of turns that P names
abbrev pub count_in : Dialect → List Word → Option ℕ
count_in d words = if counts_turns d then turn_count (value_of bytes.P words) else None

-- the turns of a line
abbrev pub turning_of : Known → List Word → Option Turning
turning_of k words = turning_if k words (count_in k.dialect words)

-- ---- the lines

-- the angle of all turns
abbrev pub whole : ℕ → ℕ → ℕ
whole count last = (count - 1) * WHOLE + last

abbrev pub part_of : ℤ → ℕ → ℤ → Result ℤ PolarRefusal
part_of rise made whole = length (nearest (rise *ℤ pos (made * WHOLE)) whole)

-- by how much the height has changed after some turns
abbrev pub risen : Turning → ℤ → ℕ → Result ℤ PolarRefusal
risen t rise made =
    if made == 0 then Ok (pos 0) else (
    if nat_le t.count made then Ok rise
    else part_of rise made (pos (whole t.count t.last)))

-- the coordinate of a turn's end, or the distance to it
abbrev pub height_from : Turning → Height → ℕ → ℤ → Result ℤ PolarRefusal
height_from t h made here =
    if t.is_incremental then (risen t h.rise (made - 1) >>= λ before. Ok (here -ℤ before))
    else Ok (h.start +ℤ here)

abbrev pub height_at : Turning → Height → ℕ → Result ℤ PolarRefusal
height_at t h made = risen t h.rise made >>= λ here. height_from t h made here

abbrev pub height_word_at : Turning → Height → ℕ → Result (Option Word) PolarRefusal
height_word_at t h made =
    if not t.is_incremental && nat_le t.count made then Ok None
    else height_at t h made >>= λ there. Ok (Some (length_word t.units h.letter there))

-- in G90 that of the last turn is the line's own
abbrev pub height_word_of : Turning → Option Height → ℕ → Result (Option Word) PolarRefusal
height_word_of t None made = Ok None
height_word_of t (Some h) made = height_word_at t h made

abbrev pub height_word : Turning → ℕ → Result (Option Word) PolarRefusal
height_word t made = height_word_of t t.height made

abbrev pub last_kept : Bool → Option Height → Kept
last_kept true (Some h) = kept.PlacesBut h.letter
last_kept _ _ = kept.Places

abbrev pub kept_at : Turning → ℕ → Kept
kept_at t made =
    if nat_lt made t.count then (if nat_le made 1 then kept.NotPlaces else kept.Offsets)
    else last_kept t.is_incremental t.height

-- the words of a full circle's centre, which the last turn doesn't have
abbrev pub circle_at : Turning → ℕ → Option OffsetWords
circle_at t made = if nat_lt made t.count then t.circle else None

abbrev pub u_word : Option OffsetWords → Option Word
u_word None = None
u_word (Some o) = Some o.u

abbrev pub v_word : Option OffsetWords → Option Word
v_word None = None
v_word (Some o) = Some o.v

abbrev pub turn_line : Turning → ℕ → Option Word → WordLine
turn_line t made height = record {
  first = height;
  second = u_word (circle_at t made);
  third = v_word (circle_at t made);
  kept = kept_at t made;
}

-- the line of a turn, where some are left with it
unfoldable pub turn_step : Turning → ℕ → Result WordLine PolarRefusal
turn_step t left = do
  height ← height_word t (made_with t.count left)
  Ok (turn_line t (made_with t.count left) height)

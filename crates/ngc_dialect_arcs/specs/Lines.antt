-- An arc's line of another control, and its words in our own language (NISTIR 6556, 3.5.3;
-- LinuxCNC's documentation, "G2, G3", "G90.1"). Lengths are in nanometres.
use Rattle.std.specs.Prelude.{ℤ, pos, ◌+ℤ◌, ◌-ℤ◌, Bool, true, false, ◌&&◌, ◌||◌, Option, Some, None}
use Rattle.std.specs.Prelude.{Result, Ok, Err, is_some, is_none, if◌then◌else◌}
use Rattle.ngc_fixed_length.specs.Places.{in_plane}
use Rattle.ngc_fixed_length.specs.Signed.{is_zero, same}
use Rattle.ngc_fixed_length.specs.declared.modes.Distance.{Distance}
use Rattle.ngc_fixed_length.specs.declared.modes.Distance.TheVariants.{Absolute, Incremental}
use Rattle.ngc_fixed_length.specs.declared.modes.Plane.{Plane}
use Rattle.ngc_fixed_length.specs.declared.modes.Plane.TheVariants.{XY, ZX, YZ}
use Rattle.ngc_fixed_length.specs.declared.points.Point2.{Point2}
use Rattle.ngc_fixed_length.specs.declared.units.Units.{Units}
use Rattle.ngc_fixed_length.specs.declared.points.Point3.{Point3}
use Rattle.ngc_offsets.specs.declared.given.AxisLengths.{AxisLengths}
use Rattle.ngc_dialect_names.specs.declared.dialect.Dialect.{Dialect}
use Rattle.ngc_dialect_names.specs.declared.dialect.Dialect.TheVariants.{LinuxCnc, Grbl}
use Rattle.ngc_dialect_arcs.specs.declared.line.ArcLine.{ArcLine}
use Rattle.ngc_dialect_arcs.specs.declared.refusal.ArcRefusal.{ArcRefusal}
use Rattle.ngc_dialect_arcs.specs.declared.refusal.ArcRefusal.TheVariants as why
use Rattle.ngc_dialect_arcs.specs.Centre.{settled, by_radius}
use Rattle.ngc_dialect_arcs.specs.Refusals.{◌>>=◌, length}

-- the words X, Y and Z, or I, J and K, of the plane's axes
abbrev pub along_u : Plane → AxisLengths → Option ℤ
along_u XY a = a.x
along_u ZX a = a.z
along_u YZ a = a.y

abbrev pub along_v : Plane → AxisLengths → Option ℤ
along_v XY a = a.y
along_v ZX a = a.x
along_v YZ a = a.z

-- whether there is a word along the third axis
abbrev pub has_third : Plane → AxisLengths → Bool
has_third XY a = is_some a.z
has_third ZX a = is_some a.y
has_third YZ a = is_some a.x

abbrev pub in_axes : Plane → Option ℤ → Option ℤ → AxisLengths
in_axes XY u v = record { x = u; y = v; z = None }
in_axes ZX u v = record { x = v; y = None; z = u }
in_axes YZ u v = record { x = None; y = u; z = v }

abbrev pub start_of : ArcLine → Point2
start_of l = in_plane l.plane l.start

-- the program's coordinate of a place, by the origin and the offsets of its axis
abbrev pub from_zero : ℤ → ℤ → Result ℤ ArcRefusal
from_zero place zero = length (place -ℤ zero)

abbrev pub coordinate : ℤ → ℤ → ℤ → ℤ → Result ℤ ArcRefusal
coordinate place origin offset tool = from_zero place ((origin +ℤ offset) +ℤ tool)

abbrev pub programmed : Point3 → Point3 → Point3 → ℤ → Result Point3 ArcRefusal
programmed place origin offset tool = do
  x ← coordinate place.x origin.x offset.x (pos 0)
  y ← coordinate place.y origin.y offset.y (pos 0)
  z ← coordinate place.z origin.z offset.z tool
  Ok (record { x = x; y = y; z = z })

-- ---- the end, as a vector from the start; an axis without a word stays

abbrev pub less : ℤ → ℤ → Result ℤ ArcRefusal
less l start = length (l -ℤ start)

abbrev pub distance_along : Distance → ℤ → Option ℤ → Result ℤ ArcRefusal
distance_along distance start None = Ok (pos 0)
distance_along Incremental start (Some l) = Ok l
distance_along Absolute start (Some l) = less l start

unfoldable pub end_of : ArcLine → Result Point2 ArcRefusal
end_of l = do
  u ← distance_along l.distance (start_of l).u (along_u l.plane l.axes)
  v ← distance_along l.distance (start_of l).v (along_v l.plane l.axes)
  Ok (record { u = u; v = v })

-- ---- the centre, as a vector from the start; an absolute one needs both words

abbrev pub offset_along : Bool → ℤ → Option ℤ → Result ℤ ArcRefusal
offset_along true start None = Err why.OneOffset
offset_along true start (Some o) = less o start
offset_along false start None = Ok (pos 0)
offset_along false start (Some o) = Ok o

abbrev pub has_offset : ArcLine → Bool
has_offset l = is_some (along_u l.plane l.offsets) || is_some (along_v l.plane l.offsets)

unfoldable pub given : ArcLine → Result Point2 ArcRefusal
given l = do
  u ← offset_along l.absolute_centre (start_of l).u (along_u l.plane l.offsets)
  v ← offset_along l.absolute_centre (start_of l).v (along_v l.plane l.offsets)
  Ok (record { u = u; v = v })

abbrev pub by_offsets : Units → ArcLine → Point2 → Result Point2 ArcRefusal
by_offsets written l end =
    if has_offset l then (given l >>= λ centre. settled l.dialect l.units written end centre)
    else Err why.NoCentre

abbrev pub centre_by : Units → ArcLine → Point2 → Option ℤ → Result Point2 ArcRefusal
centre_by written l end None = by_offsets written l end
centre_by written l end (Some r) =
    if has_offset l then Err why.RadiusBesideOffsets
    else by_radius l.dialect written l.turn end r

abbrev pub is_linuxcnc : Dialect → Bool
is_linuxcnc LinuxCnc = true
is_linuxcnc _ = false

-- P is the number of turns in LinuxCNC and Grbl; the others leave it out
abbrev pub counts_turns : Dialect → Bool
counts_turns LinuxCnc = true
counts_turns Grbl = true
counts_turns _ = false

-- one turn is 1000000 millionths
abbrev pub turns_fault : Option ℤ → Option ArcRefusal
turns_fault None = None
turns_fault (Some p) =
    if is_zero p then Some why.NoTurn
    else (if same p (pos 1000000) then None else Some why.SeveralTurns)

-- LinuxCNC refuses an offset of the third axis, which the others leave out
unfoldable pub word_fault : ArcLine → Option ArcRefusal
word_fault l =
    if is_linuxcnc l.dialect && has_third l.plane l.offsets then Some why.ThirdOffset else None

unfoldable pub count_fault : ArcLine → Option ArcRefusal
count_fault l = if counts_turns l.dialect then turns_fault l.turns else None

abbrev pub refuse_of : Option ArcRefusal → Result (Unit {0}) ArcRefusal
refuse_of None = Ok tt
refuse_of (Some e) = Err e

-- the centre of the arc in our own language, if the line is written in these units; the number of
-- turns is refused last, so that what is wrong with one turn too is said first
unfoldable pub centre_of : Units → ArcLine → Result Point2 ArcRefusal
centre_of written l = do
  words ← refuse_of (word_fault l)
  end ← end_of l
  centre ← centre_by written l end l.radius
  turns ← refuse_of (count_fault l)
  Ok centre

-- ---- words of our own language

-- an offset is written if the line has it, or if it isn't 0
abbrev pub shown : Option ℤ → ℤ → Option ℤ
shown None offset = if is_zero offset then None else Some offset
shown (Some o) offset = Some offset

abbrev pub shown_offsets : ArcLine → Point2 → AxisLengths
shown_offsets l centre =
    in_axes l.plane (shown (along_u l.plane l.offsets) centre.u)
    (shown (along_v l.plane l.offsets) centre.v)

-- I, J and K
unfoldable pub plain_offsets : Units → ArcLine → Result AxisLengths ArcRefusal
plain_offsets written l = do
  centre ← centre_of written l
  Ok (shown_offsets l centre)

-- where an axis stays
abbrev pub staying : Distance → ℤ → ℤ
staying Absolute start = start
staying Incremental start = pos 0

abbrev pub with_u : Plane → ℤ → AxisLengths → AxisLengths
with_u XY z a = record a { x = Some z }
with_u ZX z a = record a { z = Some z }
with_u YZ z a = record a { y = Some z }

-- X, Y and Z: our own language needs a word of the plane
unfoldable pub plain_axes : ArcLine → AxisLengths
plain_axes l =
    if is_none (along_u l.plane l.axes) && is_none (along_v l.plane l.axes)
    then with_u l.plane (staying l.distance (start_of l).u) l.axes
    else l.axes

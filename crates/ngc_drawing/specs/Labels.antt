-- Labels of a picture that don't overlap. Our own.
use Rattle.std.specs.Prelude.{ℕ, zero, suc, ◌+◌, ◌*◌, nat_lt, ◌==◌, length, min, ℤ, pos, neg_ℤ, ◌+ℤ◌, ◌-ℤ◌}
use Rattle.std.specs.Prelude.{◌*ℤ◌, int_lt, List, [], ◌∷◌, ◌++◌, slice_get, Option, Some, None, Bool, true}
use Rattle.std.specs.Prelude.{false, not, ◌&&◌, if◌then◌else◌}
use Rattle.std.specs.List.{list_any}
use Rattle.std.specs.Ordering.{int_eq}
use Rattle.ngc_fixed_length.specs.declared.points.Point3.{Point3}
use Rattle.ngc_machine_files.specs.Machine.{MachineFile}
use Rattle.ngc_machine_files.specs.declared.machine.Fixture.{Fixture}
use Rattle.ngc_picture_shapes.specs.Sheets.{is_in}
use Rattle.ngc_picture_shapes.specs.Views.{spot}
use Rattle.ngc_drawing.specs.declared.label.Anchor.{Anchor}
use Rattle.ngc_drawing.specs.declared.label.Kind.{Kind}
use Rattle.ngc_drawing.specs.declared.label.Kind.TheVariants as kinds
use Rattle.ngc_drawing.specs.declared.label.Placed.{Placed}
use Rattle.ngc_drawing.specs.declared.label.Room.{Room}
use Rattle.ngc_drawing.specs.declared.origin.WorkOrigin.{WorkOrigin}
use Rattle.ngc_picture_shapes.specs.declared.spot.Rectangle.{Rectangle}
use Rattle.ngc_picture_shapes.specs.declared.spot.Spot.{Spot}
use Rattle.ngc_picture_shapes.specs.declared.view.View.{View}

-- ---- the work origin

abbrev pub is_zero : Point3 → Bool
is_zero p = int_eq p.x (pos 0) && (int_eq p.y (pos 0) && int_eq p.z (pos 0))

-- where the program's X0 Y0 Z0 is: the origin of the coordinate system, moved by the axis offset
abbrev pub work_place : WorkOrigin → Point3
work_place w = record {
  x = w.origin.x +ℤ w.axis_offset.x;
  y = w.origin.y +ℤ w.axis_offset.y;
  z = w.origin.z +ℤ w.axis_offset.z;
}

-- an axis offset is in force (G92)
abbrev pub is_moved : WorkOrigin → Bool
is_moved w = not (is_zero w.axis_offset)

-- ---- the rectangle of a label's text

-- where a text begins or ends, across from its spot, and how far below the spot its base line is, in
-- tenths of units; `Spelling.antt` has the same places
abbrev pub anchor : Kind → Anchor
anchor kinds.Fixture = record { across = pos 5; down = neg_ℤ (pos 5); is_end = false }
anchor kinds.Start = record { across = pos 10; down = neg_ℤ (pos 10); is_end = false }
anchor kinds.Home = record { across = pos 10; down = pos 24; is_end = false }
anchor kinds.SecondHome = record { across = neg_ℤ (pos 10); down = pos 24; is_end = true }
anchor kinds.Origin = record { across = neg_ℤ (pos 6); down = pos 20; is_end = true }

-- The rectangle of a text of this number of characters, each 1.2 units wide. A line is two units high, 1.5 of
-- them above the base line. In tenths of micrometres; top and bottom count downwards.
abbrev pub width : ℤ → ℕ → ℤ
width unit characters = pos (12 * characters) *ℤ unit

abbrev pub place_across : ℤ → Anchor → Spot → ℤ
place_across unit a at = (pos 10 *ℤ at.across) +ℤ (a.across *ℤ unit)

abbrev pub room : ℤ → Anchor → Spot → ℕ → Room
room unit a at characters = record {
  left = if a.is_end then place_across unit a at -ℤ width unit characters
      else place_across unit a at;
  right = if a.is_end then place_across unit a at
      else place_across unit a at +ℤ width unit characters;
  top = ((a.down -ℤ pos 15) *ℤ unit) -ℤ (pos 10 *ℤ at.up);
  bottom = ((a.down +ℤ pos 5) *ℤ unit) -ℤ (pos 10 *ℤ at.up);
}

-- two intervals overlap; a common end is no overlap
abbrev pub overlap : ℤ → ℤ → ℤ → ℤ → Bool
overlap low high other_low other_high = int_lt low other_high && int_lt other_low high

abbrev pub meets : Room → Room → Bool
meets r s =
    overlap r.left r.right s.left s.right && overlap r.top r.bottom s.top s.bottom

-- a label that isn't drawn overlaps nothing
abbrev pub meets_space : Room → Option Room → Bool
meets_space r None = false
meets_space r (Some s) = meets r s

abbrev pub meets_placed : Room → Placed → Bool
meets_placed r p = meets_space r p.room

-- ---- the rule

abbrev pub height : ℤ → ℤ
height unit = pos 20 *ℤ unit

abbrev pub lowered : ℤ → Room → Room
lowered height r = record {
  left = r.left;
  right = r.right;
  top = r.top +ℤ height;
  bottom = r.bottom +ℤ height;
}

-- A label that would overlap one of those placed before it is moved down by the height of a line, and
-- again, until it doesn't. The first number is how often this may still happen, the second how often
-- it has happened.
abbrev pub settle : List Placed → ℤ → ℕ → ℕ → Room → Placed
settle placed height zero lines r = record { lines = lines; room = Some r }
settle placed height (suc n) lines r =
    if list_any (meets_placed r) placed
    then settle placed height n (lines + 1) (lowered height r)
    else record { lines = lines; room = Some r }

-- each label before it can be in the way twice, and a picture has far fewer than a thousand
abbrev pub tries : List Placed → ℕ
tries placed = 2 * min (length placed) 1000

abbrev pub settled : ℤ → List Placed → Kind → Spot → ℕ → Placed
settled unit placed kind at characters =
    settle placed (height unit) (tries placed) 0 (room unit (anchor kind) at characters)

abbrev pub HIDDEN : Placed
HIDDEN = record { lines = 0; room = None }

-- ---- the labels of a picture, in the order in which they are placed

-- one at a spot that the picture shows
abbrev pub settled_in : ℤ → Rectangle → List Placed → Kind → Spot → ℕ → Placed
settled_in unit area placed kind at characters =
    if is_in area at then settled unit placed kind at characters else HIDDEN

unfoldable pub with_mark : ℤ → Rectangle → Kind → Spot → ℕ → List Placed → List Placed
with_mark unit area kind at characters placed =
    placed ++ settled_in unit area placed kind at characters ∷ []

-- the code of a coordinate system, and G92 after it
abbrev pub origin_characters : WorkOrigin → ℕ
origin_characters w = (if nat_lt w.system 6 then 3 else 5) + (if is_moved w then 4 else 0)

unfoldable pub origin_label : ℤ → View → Rectangle → WorkOrigin → Placed
origin_label unit view area w =
    if is_zero (work_place w) then HIDDEN
    else settled_in unit area [] kinds.Origin (spot view (work_place w)) (origin_characters w)

-- a fixture's number has at most three digits
abbrev pub digits : ℕ → ℕ
digits i = if nat_lt i 10 then 1 else if nat_lt i 100 then 2 else 3

-- its number, and a space and its name, if it has one
abbrev pub fixture_characters : ℕ → List ℕ → ℕ
fixture_characters i name = digits i + (if length name == 0 then 0 else length name + 1)

abbrev pub with_fixtures : ℤ → View → ℕ → List Placed → List Fixture → List Placed
with_fixtures unit view i placed [] = placed
with_fixtures unit view i placed (f ∷ fs) =
    with_fixtures unit view (i + 1)
    (placed ++ settled unit placed kinds.Fixture (spot view f.low) (fixture_characters i f.name) ∷ [])
    fs

-- the work origin, start, G28 and G30, and then the fixtures
abbrev pub mark_labels : ℤ → View → Rectangle → MachineFile → WorkOrigin → List Placed
mark_labels unit view area machine w =
    with_mark unit area kinds.SecondHome (spot view machine.home30) 3
    (with_mark unit area kinds.Home (spot view machine.home28) 3
    (with_mark unit area kinds.Start (spot view machine.start) 5
    (origin_label unit view area w ∷ [])))

abbrev pub labels : ℤ → View → Rectangle → MachineFile → WorkOrigin → List Placed
labels unit view area machine w =
    with_fixtures unit view 0 (mark_labels unit view area machine w) machine.fixtures

-- by how many lines a label is moved down
abbrev pub lines_of : Option Placed → ℕ
lines_of None = 0
lines_of (Some p) = p.lines

abbrev pub lines_at : List Placed → ℕ → ℕ
lines_at placed i = lines_of (slice_get placed i)

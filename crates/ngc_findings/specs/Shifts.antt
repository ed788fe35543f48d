-- How far a command must move to be clear of an obstacle. Our own.
use Rattle.std.specs.Prelude.{ℕ, ◌*◌, ◌≤◌, nat_le, max, ℤ, pos, negsuc, ◌+ℤ◌, ◌-ℤ◌, neg_ℤ, int_le, unsigned_abs, fold, map}
use Rattle.std.specs.Prelude.{Bool, ◌||◌, IsTrue, ◌≡◌, Option, Some, None, if◌then◌else◌}
use Rattle.std.specs.List.{list_all}
use Rattle.std.specs.Int.{div_ceil}
use Rattle.ngc_fixed_length.specs.Length.{IsStep}
use Rattle.ngc_fixed_length.specs.declared.points.GridBox.{GridBox}
use Rattle.ngc_fixed_length.specs.declared.points.StepPos.{StepPos}
use Rattle.ngc_machine_files.specs.Machine.{MachineFile}
use Rattle.ngc_machine_files.specs.declared.machine.Fixture.{Fixture}
use Rattle.ngc_machine_files.specs.declared.tools.Tool.{Tool}
use Rattle.ngc_collision.specs.Body.{Solid, bodies, clears, span}
use Rattle.ngc_findings.specs.Rooms.{is_inside_on, room}
use Rattle.ngc_findings.specs.declared.margins.Axis.{Axis}
use Rattle.ngc_findings.specs.declared.margins.Axis.TheVariants.{X, Y, Z}
use Rattle.ngc_findings.specs.declared.margins.Side.{Side}
use Rattle.ngc_findings.specs.declared.margins.Side.TheVariants.{Below, Above}
use Rattle.ngc_findings.specs.declared.shifts.AxisShift.{AxisShift}
use Rattle.ngc_findings.specs.declared.shifts.Shifts.{Shifts}
use Rattle.ngc_findings.specs.declared.travel.AxisSpace.{AxisSpace}
use Rattle.ngc_findings.specs.declared.travel.Room.{Room}

-- the least number of whole steps, in nanometres, that isn't less than a length; 0 if that is below
-- zero
abbrev pub whole_steps : ℤ → ℤ → ℕ
whole_steps step (pos n) = div_ceil n (unsigned_abs step) * unsigned_abs step
whole_steps step (negsuc n) = 0

-- ---- past a fixture

-- upwards until the low end is past the fixture, and downwards until the high end is
abbrev pub axis_shift : ℤ → ℤ → ℤ → ℤ → ℤ → AxisShift
axis_shift step low high least greatest =
    record { up = whole_steps step (greatest -ℤ low); down = whole_steps step (high -ℤ least) }

-- two ranges along an axis are apart; they may touch
abbrev pub is_apart_along : ℤ → ℤ → ℤ → ℤ → Bool
is_apart_along low high least greatest = int_le high least || int_le greatest low

-- a box is apart from the fixture along another axis than this one: it is beside it
abbrev pub is_beside : Axis → Fixture → Solid → Bool
is_beside X f b =
    is_apart_along b.low.y b.high.y f.low.y f.high.y
    || is_apart_along b.low.z b.high.z f.low.z f.high.z
is_beside Y f b =
    is_apart_along b.low.x b.high.x f.low.x f.high.x
    || is_apart_along b.low.z b.high.z f.low.z f.high.z
is_beside Z f b =
    is_apart_along b.low.x b.high.x f.low.x f.high.x
    || is_apart_along b.low.y b.high.y f.low.y f.high.y

abbrev pub stays : AxisShift
stays = record { up = 0; down = 0 }

-- the shift along an axis of a part of the tool; a part beside the fixture stays
abbrev pub unless : Bool → AxisShift → AxisShift
unless beside s = if beside then stays else s

abbrev pub shifts_of : ℤ → Fixture → Solid → Shifts
shifts_of step f b = record {
  x = unless (is_beside X f b) (axis_shift step b.low.x b.high.x f.low.x f.high.x);
  y = unless (is_beside Y f b) (axis_shift step b.low.y b.high.y f.low.y f.high.y);
  z = unless (is_beside Z f b) (axis_shift step b.low.z b.high.z f.low.z f.high.z);
}

abbrev pub no_shifts : Shifts
no_shifts = record { x = stays; y = stays; z = stays }

abbrev pub longer : AxisShift → AxisShift → AxisShift
longer s t = record { up = max s.up t.up; down = max s.down t.down }

abbrev pub longest : Shifts → Shifts → Shifts
longest s t = record { x = longer s.x t.x; y = longer s.y t.y; z = longer s.z t.z }

-- how far the tool over a box of positions must move, in each of the six directions, until each of
-- its parts is past the fixture or beside it
abbrev pub shifts_past : ℤ → Option Tool → GridBox → Fixture → Shifts
shifts_past step tool b f =
    fold longest no_shifts (map (shifts_of step f) (bodies tool (span step b)))

-- ---- laws

-- the direction of a side: upwards is `Above`
abbrev pub along : Side → AxisShift → ℕ
along Below s = s.down
along Above s = s.up

abbrev pub toward : Axis → Side → Shifts → ℕ
toward X side s = along side s.x
toward Y side s = along side s.y
toward Z side s = along side s.z

abbrev pub signed : Side → ℕ → ℤ
signed Below n = neg_ℤ (pos n)
signed Above n = pos n

-- a box of positions that moves by this number of steps
abbrev pub moved_point : Axis → ℤ → StepPos → StepPos
moved_point X n p = record { x = p.x +ℤ n; y = p.y; z = p.z }
moved_point Y n p = record { x = p.x; y = p.y +ℤ n; z = p.z }
moved_point Z n p = record { x = p.x; y = p.y; z = p.z +ℤ n }

abbrev pub moved : Axis → Side → ℕ → GridBox → GridBox
moved axis side n b = record {
  low = moved_point axis (signed side n) b.low;
  high = moved_point axis (signed side n) b.high;
}

-- a part of the tool is past the fixture in this direction
abbrev pub is_past : Axis → Side → Fixture → Solid → Bool
is_past X Below f b = int_le b.high.x f.low.x
is_past X Above f b = int_le f.high.x b.low.x
is_past Y Below f b = int_le b.high.y f.low.y
is_past Y Above f b = int_le f.high.y b.low.y
is_past Z Below f b = int_le b.high.z f.low.z
is_past Z Above f b = int_le f.high.z b.low.z

abbrev pub is_passed : Axis → Side → Fixture → Solid → Bool
is_passed axis side f b = is_beside axis f b || is_past axis side f b

-- A number of steps is at least the distance exactly if, after a shift by that many, each part of
-- the tool is past the fixture or beside it.
abbrev pub ShiftIsReported : Type 0
ShiftIsReported = (step : ℤ) (tool : Option Tool) (b : GridBox) (f : Fixture) (axis : Axis) (side : Side)
    (n : ℕ) → IsStep step →
    nat_le (toward axis side (shifts_past step tool b f)) (n * unsigned_abs step)
    ≡ list_all (is_passed axis side f) (bodies tool (span step (moved axis side n b)))

-- after a shift by at least the distance the tool's body doesn't meet the fixture
abbrev pub ShiftClears : Type 0
ShiftClears =
    (step : ℤ) (tool : Option Tool) (b : GridBox) (f : Fixture) (axis : Axis) (side : Side)
    (n : ℕ) → IsStep step → toward axis side (shifts_past step tool b f) ≤ n * unsigned_abs step →
    IsTrue (clears step tool (moved axis side n b) f)

-- ---- inside the travel

abbrev pub room_on : Axis → Room → AxisSpace
room_on X r = r.x
room_on Y r = r.y
room_on Z r = r.z

abbrev pub if_fits : ℕ → ℤ → Option ℕ
if_fits shift left = if int_le (pos shift) left then Some shift else None

-- the least shift, away from a side, after which a box lies within the travel along an axis; none
-- if it is too long for the travel
abbrev pub shift_inside : ℤ → Side → AxisSpace → Option ℕ
shift_inside step Below r = if_fits (whole_steps step (neg_ℤ r.below)) r.above
shift_inside step Above r = if_fits (whole_steps step (neg_ℤ r.above)) r.below

abbrev pub opposite : Side → Side
opposite Below = Above
opposite Above = Below

-- after that shift the box lies within the travel along the axis
abbrev pub ShiftStaysInside : Type 0
ShiftStaysInside = (machine : MachineFile) (b : GridBox) (axis : Axis) (side : Side) (n : ℕ) →
    IsStep machine.step →
    shift_inside machine.step side (room_on axis (room machine b))
    ≡ Some (n * unsigned_abs machine.step) →
    IsTrue (is_inside_on (room_on axis (room machine (moved axis (opposite side) n b))))

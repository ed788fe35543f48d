-- What looks wrong in a machine file or in a tool table, though it is within its range. Our own.
use Rattle.std.specs.Prelude.{ℕ, min, max, nat_lt, ℤ, pos, ◌-ℤ◌, ◌*ℤ◌, int_lt, List, length, Bool, ◌&&◌, ◌||◌}
use Rattle.std.specs.List.{list_all}
use Rattle.std.specs.Ordering.{int_eq}
use Rattle.ngc_machine_files.specs.Machine.{MachineFile}
use Rattle.ngc_machine_files.specs.declared.machine.AxisRates.{AxisRates}
use Rattle.ngc_machine_files.specs.declared.machine.Fixture.{Fixture}
use Rattle.ngc_machine_files.specs.declared.tools.Tool.{Tool}
use Rattle.ngc_machine_speeds.specs.Speeds.{speed, gain, pull, axis_changes}
use Rattle.ngc_setup_sheet.specs.Reaches.{top_of}

-- the greatest speed is below 0.1 mm/s or above 1,000 mm/s
abbrev pub is_odd_speed : MachineFile → Bool
is_odd_speed m =
    nat_lt (speed m m.max_rate) 100000000000 || nat_lt 1000000000000000 (speed m m.max_rate)

abbrev pub least_change : AxisRates → ℕ
least_change c = min (min c.x c.y) c.z

abbrev pub greatest_change : AxisRates → ℕ
greatest_change c = max (max c.x c.y) c.z

-- the acceleration of an axis is below 1 mm/s² or above 20,000 mm/s²
abbrev pub is_odd_acceleration : MachineFile → Bool
is_odd_acceleration m =
    nat_lt (gain m (least_change (axis_changes m))) 1000000000000
    || nat_lt 20000000000000000 (gain m (greatest_change (axis_changes m)))

-- the greatest acceleration towards the centre of an arc is below 1 mm/s², the least that is not
-- odd of the acceleration along a path. An arc with a radius of 10 mm is then slower than 3.2 mm/s
-- everywhere: the square of the speed is the acceleration times the radius
abbrev pub is_slow_on_arcs : MachineFile → Bool
is_slow_on_arcs m = nat_lt (pull m) 1000000000000000000

-- two coordinates are less than `least` nanometres apart
abbrev pub is_shorter : ℤ → ℤ → ℤ → Bool
is_shorter least low high = int_lt (high -ℤ low) least

-- the travel of an axis is below 10 mm
abbrev pub is_short_travel : ℤ → ℤ → Bool
is_short_travel low high = is_shorter (pos 10000000) low high

-- on some axis a fixture is thinner than 0.1 mm
abbrev pub is_thin : Fixture → Bool
is_thin f =
    is_shorter (pos 100000) f.low.x f.high.x
    || (is_shorter (pos 100000) f.low.y f.high.y || is_shorter (pos 100000) f.low.z f.high.z)

-- the length of a tool's body
abbrev pub body_length : Tool → ℤ
body_length t = top_of (pos 0) t.parts

-- it is shorter than 1 mm
abbrev pub is_short_tool : Tool → Bool
is_short_tool t = int_lt (body_length t) (pos 1000000)

-- the offset is more than twice the body's length, or less than half of it
abbrev pub is_odd_offset : Tool → Bool
is_odd_offset t =
    int_lt (pos 2 *ℤ body_length t) t.offset || int_lt (pos 2 *ℤ t.offset) (body_length t)

-- the offset is 0, though the tool has a body
abbrev pub is_unset : Tool → Bool
is_unset t = int_eq t.offset (pos 0) && is_odd_offset t

-- a table of at least two tools, and none has an offset
abbrev pub are_unset : List Tool → Bool
are_unset tools = nat_lt 1 (length tools) && list_all is_unset tools

-- The state between two commands, as far as a warning about tools needs it. Our own.
use Rattle.std.specs.Prelude.{ℤ, Option, Some, None, Bool, true, false, ◌&&◌, if◌then◌else◌}
use Rattle.std.specs.Int.{int_min}
use Rattle.std.specs.Ordering.{int_eq}
use Rattle.ngc_machine_files.specs.Machine.{MachineFile}
use Rattle.ngc_commands.specs.Movement.{end_of}
use Rattle.ngc_commands.specs.Reached.{after, at_start}
use Rattle.ngc_commands.specs.declared.command.Action.{Action}
use Rattle.ngc_commands.specs.declared.command.Action.TheVariants.{Move, Mount, Stop, OptionalStop}
use Rattle.ngc_commands.specs.declared.movement.Pace.{Pace}
use Rattle.ngc_commands.specs.declared.movement.Pace.TheVariants.{Rapid, Feed}
use Rattle.ngc_commands.specs.declared.movement.Way.{Way}
use Rattle.ngc_commands.specs.declared.movement.Way.TheVariants.{Line, Arc}
use Rattle.ngc_tool_warnings.specs.declared.between.Between.{Between}

-- a path straight up or down
abbrev pub is_upright : Way → Bool
is_upright (Line start end) = int_eq start.x end.x && int_eq start.y end.y
is_upright (Arc arc) = false

-- ---- where the first feed with a tool began

-- after a motion that begins at height z
abbrev pub began_with : ℤ → Option ℤ → Pace → Option ℤ
began_with z had Rapid = had
began_with z None (Feed feed) = Some z
began_with z (Some height) (Feed feed) = Some height

abbrev pub began_after : ℤ → Option ℤ → Action → Option ℤ
began_after z had (Move m) = began_with z had m.pace
began_after z had (Mount tool) = None
began_after z had _ = had

-- ---- how deep the program fed where the axes are, as seen from above

abbrev pub deeper : Option ℤ → ℤ → ℤ
deeper None z = z
deeper (Some deepest) z = int_min deepest z

-- A feed leaves a hole or a groove that is as deep as its end. Straight up and down the axes stay
-- above it.
abbrev pub fed_with : Option ℤ → Pace → Way → Option ℤ
fed_with had Rapid way = if is_upright way then had else None
fed_with had (Feed feed) way =
    Some (deeper (if is_upright way then had else None) (end_of way).z)

abbrev pub fed_after : Option ℤ → Action → Option ℤ
fed_after had (Move m) = fed_with had m.pace m.way
fed_after had _ = had

-- ---- stops

-- whether the axes have moved
abbrev pub has_moved_after : Bool → Action → Bool
has_moved_after had (Move m) = true
has_moved_after had _ = had

-- whether the program has stopped since the last motion
abbrev pub has_stopped_after : Bool → Action → Bool
has_stopped_after had (Move m) = false
has_stopped_after had Stop = true
has_stopped_after had OptionalStop = true
has_stopped_after had _ = had

-- ---- over a program

abbrev pub beginning : MachineFile → Between
beginning machine = record {
  reached = at_start machine;
  began = None;
  fed = None;
  has_moved = false;
  has_stopped = false;
}

abbrev pub next : Between → Action → Between
next b action = record {
  reached = after b.reached action;
  began = began_after b.reached.place.z b.began action;
  fed = fed_after b.fed action;
  has_moved = has_moved_after b.has_moved action;
  has_stopped = has_stopped_after b.has_stopped action;
}

-- The state after the commands before one, as far as a warning needs it. Our own.
use Rattle.std.specs.Prelude.{nat_lt, ℤ, List, [], ◌∷◌, Option, Some, None, Bool, true, false}
use Rattle.std.specs.Prelude.{if◌then◌else◌}
use Rattle.ngc_fixed_length.specs.declared.points.GridBox.{GridBox}
use Rattle.ngc_machine_files.specs.Machine.{MachineFile}
use Rattle.ngc_commands.specs.declared.command.Action.{Action}
use Rattle.ngc_commands.specs.declared.command.Action.TheVariants.{Move, Mount, Spindle}
use Rattle.ngc_commands.specs.declared.command.Command.{Command}
use Rattle.ngc_commands.specs.declared.command.SpindleState.{SpindleState}
use Rattle.ngc_commands.specs.declared.command.SpindleState.TheVariants.{Off, Turning}
use Rattle.ngc_commands.specs.declared.movement.Pace.{Pace}
use Rattle.ngc_commands.specs.declared.movement.Pace.TheVariants.{Rapid, Feed}
use Rattle.ngc_commands.specs.declared.movement.Way.{Way}
use Rattle.ngc_commands.specs.Reached.{after, at_start}
use Rattle.ngc_findings.specs.Extents.{joint_box, reach}
use Rattle.ngc_findings.specs.declared.tool_state.ToolState.{ToolState}
use Rattle.ngc_findings.specs.declared.tool_state.Entry.{Entry}
use Rattle.ngc_findings.specs.declared.warnings.Concern.{Concern}
use Rattle.ngc_findings.specs.declared.warnings.Concern.TheVariants.{LowAcross}

-- at speed 0 the spindle stands still
abbrev pub turns : SpindleState → Bool
turns Off = false
turns (Turning turn speed) = nat_lt 0 speed

-- whether the spindle turns after an action: a change of tools stops it
abbrev pub is_turning_after : Bool → Action → Bool
is_turning_after was (Spindle s) = turns s
is_turning_after was (Mount tool) = false
is_turning_after was _ = was

-- ---- where feeds begin

-- nothing was fed yet
abbrev pub no_entry : Entry
no_entry = record { height = None; is_open = false }

-- A series of feeds begins at the height where its first feed begins. It lasts until a traverse or
-- a change of tools.
abbrev pub entered : ℤ → Entry → Pace → Entry
entered z e Rapid = record e { is_open = false }
entered z e (Feed feed) = record { height = if e.is_open then e.height else Some z; is_open = true }

-- the height at which the last series began, after an action that begins at height z
abbrev pub entry_after : ℤ → Entry → Action → Entry
entry_after z e (Move m) = entered z e m.pace
entry_after z e (Mount tool) = no_entry
entry_after z e _ = e

-- ---- the area of the feeds

abbrev pub with_box : Option GridBox → GridBox → Option GridBox
with_box None b = Some b
with_box (Some a) b = Some (joint_box a b)

abbrev pub with_way : ℤ → Option GridBox → Pace → Way → Option GridBox
with_way step found Rapid way = found
with_way step found (Feed feed) way = with_box found (reach step way)

abbrev pub with_feed : ℤ → Option GridBox → Action → Option GridBox
with_feed step found (Move m) = with_way step found m.pace m.way
with_feed step found _ = found

-- the least box that holds the box of each feed, or none without feeds
abbrev pub area : ℤ → Option GridBox → List Command → Option GridBox
area step found [] = found
area step found (c ∷ cs) = area step (with_feed step found c.action) cs

-- only one warning needs it
abbrev pub area_for : Concern → ℤ → List Command → Option GridBox
area_for LowAcross step commands = area step None commands
area_for _ step commands = None

-- ---- over a program

-- a program begins at the start, without a tool, and with the spindle off
abbrev pub beginning : MachineFile → Concern → List Command → ToolState
beginning machine concern commands = record {
  reached = at_start machine;
  is_turning = false;
  entry = no_entry;
  area = area_for concern machine.step commands;
}

abbrev pub next : ToolState → Action → ToolState
next s action = record s {
  reached = after s.reached action;
  is_turning = is_turning_after s.is_turning action;
  entry = entry_after s.reached.place.z s.entry action;
}

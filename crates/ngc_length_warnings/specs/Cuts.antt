-- Cuts with no tool length offset in force, and the first of them in a coordinate system from which
-- boxes of the machine count. There the program takes the height of the tip for that of the spindle
-- nose. Our own.
use Rattle.std.specs.Prelude.{ℕ, ◌+◌, pos, int_le, int_lt, unsigned_abs, List, [], ◌∷◌, ◌++◌}
use Rattle.std.specs.Prelude.{Option, Some, None, Bool, false, true, not, ◌&&◌, if◌then◌else◌}
use Rattle.std.specs.List.{find}
use Rattle.std.specs.Ordering.{int_eq}
use Rattle.ngc_fixed_length.specs.declared.points.Point3.{Point3}
use Rattle.ngc_machine_files.specs.Machine.{MachineFile}
use Rattle.ngc_machine_files.specs.declared.tools.Tool.{Tool}
use Rattle.ngc_commands.specs.Reached.{after, at_start}
use Rattle.ngc_commands.specs.declared.command.Action.{Action}
use Rattle.ngc_commands.specs.declared.command.Action.TheVariants.{Move}
use Rattle.ngc_commands.specs.declared.command.Command.{Command}
use Rattle.ngc_commands.specs.declared.movement.Motion.{Motion}
use Rattle.ngc_commands.specs.declared.movement.Pace.{Pace}
use Rattle.ngc_commands.specs.declared.movement.Pace.TheVariants as paces
use Rattle.ngc_commands.specs.declared.movement.Way.{Way}
use Rattle.ngc_commands.specs.declared.movement.Way.TheVariants.{Line, Arc}
use Rattle.ngc_commands.specs.declared.reached.Reached.{Reached}
use Rattle.ngc_frames.specs.InForce.{frame_at}
use Rattle.ngc_frames.specs.declared.change.FrameChange.{FrameChange}
use Rattle.ngc_frames.specs.declared.frame.Frame.{Frame}
use Rattle.ngc_length_warnings.specs.Boxes.{count_from}
use Rattle.ngc_length_warnings.specs.declared.cut.BareCut.{BareCut}
use Rattle.ngc_length_warnings.specs.declared.cut.Boxes.{Boxes}

-- ---- a motion that cuts

abbrev pub is_feed : Pace → Bool
is_feed paces.Rapid = false
is_feed (paces.Feed feed) = true

abbrev pub is_upright : Point3 → Point3 → Bool
is_upright start end = int_eq start.x end.x && int_eq start.y end.y

-- a helix doesn't go straight up
abbrev pub goes_up : Way → Bool
goes_up (Line start end) = is_upright start end && int_le start.z end.z
goes_up (Arc arc) = false

-- a motion with a tool cuts if it is a feed that doesn't go straight up
abbrev pub cuts : Motion → Bool
cuts m = is_feed m.pace && not (goes_up m.way)

-- ---- with no length offset

-- no length offset is in force, and the tool reaches below the spindle nose
abbrev pub is_bare : Frame → Tool → Bool
is_bare f tool = int_eq f.frames.length (pos 0) && int_lt tool.bottom (pos 0)

abbrev pub cut_by : ℕ → Frame → Tool → BareCut
cut_by line f tool =
    record {
      line = line;
      tool = tool.number;
      reach = unsigned_abs tool.bottom;
      system = f.frames.active;
    }

abbrev pub bare_cut : ℕ → Frame → Option Tool → Motion → Option BareCut
bare_cut line f None m = None
bare_cut line f (Some tool) m = if cuts m && is_bare f tool then Some (cut_by line f tool) else None

abbrev pub cut_of : ℕ → Frame → Option Tool → Action → Option BareCut
cut_of line f tool (Move m) = bare_cut line f tool m
cut_of line f tool _ = None

-- the cut of a command in this frame with this tool mounted, if it is one
abbrev pub cut_in : Frame → Option Tool → Command → Option BareCut
cut_in f tool c = cut_of c.line f tool c.action

-- ---- over a program

abbrev pub listed : Option BareCut → List BareCut
listed None = []
listed (Some cut) = cut ∷ []

-- those among these commands, in order; the first of the commands is command k
abbrev pub bare_cuts : Frame → List FrameChange → ℕ → Reached → List Command → List BareCut
bare_cuts start changes k r [] = []
bare_cuts start changes k r (c ∷ cs) =
    listed (cut_in (frame_at start changes k) r.tool c)
    ++ bare_cuts start changes (k + 1) (after r c.action) cs

-- boxes of the kind count from the cut's coordinate system
abbrev pub is_counted : Boxes → MachineFile → BareCut → Bool
is_counted boxes m cut = count_from boxes m cut.system

-- the first cut of a program in a system from which such boxes of its machine count
abbrev pub first_cut : Boxes → MachineFile → Frame → List FrameChange → List Command → Option BareCut
first_cut boxes m start changes commands =
    find (is_counted boxes m) (bare_cuts start changes 0 (at_start m) commands)

-- ---- one cut

abbrev pub counted_cut : Boxes → MachineFile → Option BareCut → Option BareCut
counted_cut boxes m None = None
counted_cut boxes m (Some cut) = if is_counted boxes m cut then Some cut else None

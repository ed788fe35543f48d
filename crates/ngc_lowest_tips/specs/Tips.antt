-- The lowest heights of a program's commands, one for each coordinate system and mounted tool. Our
-- own.
use Rattle.std.specs.Prelude.{ℕ, ◌+◌, ◌==◌, nat_lt, ℤ, pos, ◌-ℤ◌, int_lt, unsigned_abs, List, [], ◌∷◌}
use Rattle.std.specs.Prelude.{◌++◌, find, slice_index_or, slice_set}
use Rattle.std.specs.Prelude.{Option, Some, None, Bool, true, false, ◌&&◌, ◌||◌, if◌then◌else◌}
use Rattle.std.specs.List.{position}
use Rattle.std.specs.Ordering.{int_eq}
use Rattle.ngc_commands.specs.declared.command.Action.{Action}
use Rattle.ngc_commands.specs.declared.command.Action.TheVariants.{Move, Mount}
use Rattle.ngc_commands.specs.declared.command.Command.{Command}
use Rattle.ngc_frames.specs.InForce.{frame_at}
use Rattle.ngc_frames.specs.declared.change.FrameChange.{FrameChange}
use Rattle.ngc_frames.specs.declared.frame.Frame.{Frame}
use Rattle.ngc_machine_files.specs.declared.tools.Tool.{Tool}
use Rattle.ngc_offsets.specs.Frames.{index}
use Rattle.ngc_lowest_tips.specs.Heights.{height_in, lowest_of}
use Rattle.ngc_lowest_tips.specs.declared.tip.LowestTip.{LowestTip}

abbrev pub number_of : Option Tool → Option ℕ
number_of None = None
number_of (Some tool) = Some tool.number

-- the tool that is mounted after an action
abbrev pub tool_after : Option Tool → Action → Option Tool
tool_after had (Mount tool) = tool
tool_after had _ = had

-- ---- the offset of another tool

-- an offset is that of the mounted tool; a difference below 10 nm is none
abbrev pub is_own : ℤ → Option Tool → Bool
is_own offset None = false
is_own offset (Some tool) = nat_lt (unsigned_abs (offset -ℤ tool.offset)) 10

abbrev pub has_offset : ℤ → Tool → Bool
has_offset offset tool = int_eq tool.offset offset

-- the first tool in the table with the offset in force, if there is one and it isn't that of the
-- mounted tool
abbrev pub offset_of : List Tool → ℤ → Option Tool → Option ℕ
offset_of tools offset tool =
    if int_eq offset (pos 0) || is_own offset tool then None
    else number_of (find (has_offset offset) tools)

-- ---- a motion

-- the lowest height of an action of this line, in a frame and with a mounted tool; none if it
-- doesn't move
abbrev pub tip_of : List Tool → Frame → Option Tool → ℕ → Action → Option LowestTip
tip_of tools f tool line (Move motion) =
    Some (record {
      system = f.frames.active;
      tool = number_of tool;
      by = offset_of tools f.frames.length tool;
      height = height_in f (lowest_of motion.way);
      line = line;
    })
tip_of tools f tool line _ = None

-- ---- the lowest so far

abbrev pub is_same_tool : Option ℕ → Option ℕ → Bool
is_same_tool None None = true
is_same_tool (Some a) (Some b) = a == b
is_same_tool _ _ = false

abbrev pub is_same_pair : LowestTip → LowestTip → Bool
is_same_pair a b = (index a.system == index b.system) && is_same_tool a.tool b.tool

-- the lower of two, the first of equal ones
abbrev pub lower : LowestTip → LowestTip → LowestTip
lower had new = if int_lt new.height had.height then new else had

-- where the pair is in the list, the lower height stays there; a pair that isn't is added at the
-- end
abbrev pub with_new_at : Option ℕ → List LowestTip → LowestTip → List LowestTip
with_new_at None tips new = tips ++ (new ∷ [])
with_new_at (Some i) tips new = slice_set tips i (lower (slice_index_or tips i new) new)

abbrev pub with_new : List LowestTip → LowestTip → List LowestTip
with_new tips new = with_new_at (position (λ t. is_same_pair t new) tips) tips new

abbrev pub with_tip : List LowestTip → Option LowestTip → List LowestTip
with_tip tips None = tips
with_tip tips (Some new) = with_new tips new

-- ---- of all commands

-- the lowest after the commands from command k on, where this tool is mounted and these were the
-- lowest before them
abbrev pub tips_from : List Tool → Frame → List FrameChange → ℕ → Option Tool → List LowestTip →
    List Command → List LowestTip
tips_from tools start changes k tool tips [] = tips
tips_from tools start changes k tool tips (c ∷ cs) =
    tips_from tools start changes (k + 1) (tool_after tool c.action)
    (with_tip tips (tip_of tools (frame_at start changes k) tool c.line c.action)) cs

-- the lowest of a program's commands, where the program has these frames, and this is the tool table
abbrev pub lowest_tips : List Tool → Frame → List FrameChange → List Command → List LowestTip
lowest_tips tools start changes commands = tips_from tools start changes 0 None [] commands

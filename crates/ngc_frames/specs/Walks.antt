-- A walk over the changes of a program, from command to command. Our own.
use Rattle.std.specs.Prelude.{◌≡◌, ◌≤◌, ℕ, List, length, drop, slice_index_or}
use Rattle.ngc_offsets.specs.Frames.{index}
use Rattle.ngc_frames.specs.InForce.{frame_at, line_that_set}
use Rattle.ngc_frames.specs.declared.change.FrameChange.{FrameChange}
use Rattle.ngc_frames.specs.declared.frame.Frame.{Frame}
use Rattle.ngc_frames.specs.declared.frame.FramePart.{FramePart}
use Rattle.ngc_frames.specs.declared.frame.FramePart.TheVariants as parts
use Rattle.ngc_frames.specs.declared.in_force.FrameInForce.{FrameInForce}
use Rattle.ngc_frames.specs.declared.walk.FrameWalk.{FrameWalk}
use Rattle.ngc_frames.specs.declared.walk.SetLines.{SetLines}

-- the line that set a part, 0 if none did
abbrev pub set_line : SetLines → FramePart → ℕ
set_line s parts.Selection = s.selection
set_line s (parts.Origin system) = slice_index_or s.origins (index system) 0
set_line s parts.AxisOffset = s.axis_offset
set_line s parts.ToolLength = s.tool_length
set_line s parts.Unit = s.unit

-- the walk has passed the first of the changes: from its command on, only the others count
pub record WalksOver (start : Frame) (changes : List FrameChange) (w : FrameWalk) : Type 0 where
  pub within : w.passed ≤ length changes
  pub frame : (k : ℕ) → w.command ≤ k →
      frame_at start changes k ≡ frame_at w.frame (drop w.passed changes) k
  pub set : (part : FramePart) (k : ℕ) → w.command ≤ k →
      line_that_set part k 0 start changes
      ≡ line_that_set part k (set_line w.set part) w.frame (drop w.passed changes)

-- the frame at the walk's place, with the lines that set its parts
abbrev pub here : FrameWalk → FrameInForce
here w =
    record {
      frame = w.frame;
      selection_line = set_line w.set parts.Selection;
      origin_line = set_line w.set (parts.Origin w.frame.frames.active);
      axis_offset_line = set_line w.set parts.AxisOffset;
      tool_length_line = set_line w.set parts.ToolLength;
      unit_line = set_line w.set parts.Unit;
    }

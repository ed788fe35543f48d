-- The frame in force at a command, and the lines that set its parts. Our own; the order within a line
-- is that of NISTIR 6556, 3.8.
use Rattle.std.specs.Prelude.{ℕ, nat_le, List, [], ◌∷◌, if◌then◌else◌}
use Rattle.ngc_frames.specs.Frame.{is_same_part}
use Rattle.ngc_frames.specs.declared.change.FrameChange.{FrameChange}
use Rattle.ngc_frames.specs.declared.frame.Frame.{Frame}
use Rattle.ngc_frames.specs.declared.frame.FramePart.{FramePart}
use Rattle.ngc_frames.specs.declared.frame.FramePart.TheVariants as parts
use Rattle.ngc_frames.specs.declared.in_force.FrameInForce.{FrameInForce}

-- The frame by which command k is executed, counted from 0: that of the last change before it. A line
-- sets its frame before it moves. The changes are in the order of execution, so that none counts after
-- the first that is later.
abbrev pub frame_at : Frame → List FrameChange → ℕ → Frame
frame_at frame [] k = frame
frame_at frame (c ∷ cs) k = if nat_le c.command k then frame_at c.frame cs k else frame

abbrev pub set_by : FramePart → ℕ → Frame → FrameChange → ℕ
set_by part had frame c = if is_same_part part frame c.frame then had else c.line

-- the line that changed a part last before command k; if there is none, `set`
abbrev pub line_that_set : FramePart → ℕ → ℕ → Frame → List FrameChange → ℕ
line_that_set part k set frame [] = set
line_that_set part k set frame (c ∷ cs) =
    if nat_le c.command k then line_that_set part k (set_by part set frame c) c.frame cs else set

abbrev pub frame_in_force : Frame → List FrameChange → ℕ → FrameInForce
frame_in_force start changes k =
    let frame = frame_at start changes k in
    record {
      frame = frame;
      selection_line = line_that_set parts.Selection k 0 start changes;
      origin_line = line_that_set (parts.Origin frame.frames.active) k 0 start changes;
      axis_offset_line = line_that_set parts.AxisOffset k 0 start changes;
      tool_length_line = line_that_set parts.ToolLength k 0 start changes;
      unit_line = line_that_set parts.Unit k 0 start changes;
    }

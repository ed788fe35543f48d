-- The motion that a report is about, in the program's coordinates. Our own.
use Rattle.std.specs.Prelude.{ℕ, Bool, List, [], slice_get, Option, Some, None}
use Rattle.std.specs.Prelude.{option_and_then}
use Rattle.ngc_fixed_length.specs.declared.points.Point3.{Point3}
use Rattle.ngc_offsets.specs.Frames.{to_program}
use Rattle.ngc_commands.specs.Movement.{start_of, end_of}
use Rattle.ngc_commands.specs.declared.command.Action.{Action}
use Rattle.ngc_commands.specs.declared.command.Action.TheVariants.{Move}
use Rattle.ngc_commands.specs.declared.command.Command.{Command}
use Rattle.ngc_commands.specs.declared.movement.Way.{Way}
use Rattle.ngc_frames.specs.Facts.{motion_fact}
use Rattle.ngc_frames.specs.Words.{motion_words}
use Rattle.ngc_frames.specs.declared.change.FrameChange.{FrameChange}
use Rattle.ngc_frames.specs.declared.frame.Frame.{Frame}
use Rattle.ngc_frames.specs.declared.in_force.FrameInForce.{FrameInForce}
use Rattle.ngc_origins.specs.Texts.{OriginList, replaces}
use Rattle.ngc_report.specs.declared.form.Form.{Form}
use Rattle.ngc_report.specs.declared.form.Form.TheVariants.{Words, Json}

abbrev pub way_of : Action → Option Way
way_of (Move m) = Some m.way
way_of _ = None

-- the frames of a program at a setting: that at the start, and each change
pub record History : Type 0 where
  pub start : Frame
  pub changes : List FrameChange

abbrev pub history_of : Frame → List FrameChange → History
history_of start changes = record { start = start; changes = changes }

-- the path of the reported command, if it is a motion
abbrev pub refused_path : List Command → Option ℕ → Option Way
refused_path commands None = None
refused_path commands (Some k) = option_and_then (λ c. way_of c.action) (slice_get commands k)

unfoldable pub motion_text : Form → Bool → FrameInForce → Point3 → Point3 → List ℕ
motion_text Words given f from to = motion_words given f from to
motion_text Json given f from to = motion_fact f from to

-- where it begins and ends in the program's coordinates
unfoldable pub coordinates_text : Form → OriginList → FrameInForce → Option Way → List ℕ
coordinates_text form origins f None = []
coordinates_text form origins f (Some way) =
    motion_text form (replaces origins f.frame.frames.active) f
    (to_program f.frame.frames (start_of way))
    (to_program f.frame.frames (end_of way))

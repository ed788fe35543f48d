-- The frame at the start of a program, and each change of it. Our own, over the meaning of lines
-- (NISTIR 6556, 3.8).
use Rattle.std.specs.Prelude.{ℕ, List, [], ◌∷◌, ◌++◌, length, Result, Ok, Err, Bool, true, false}
use Rattle.std.specs.Prelude.{if◌then◌else◌}
use Rattle.ngc_canonical.specs.Meaning.{NumberedLine, after_line, remaining}
use Rattle.ngc_canonical.specs.State.{Setup, State, start_state}
use Rattle.ngc_canonical.specs.declared.fault.ProgramFault.{ProgramFault}
use Rattle.ngc_frames.specs.Frame.{is_same_frame}
use Rattle.ngc_frames.specs.declared.change.FrameChange.{FrameChange}
use Rattle.ngc_frames.specs.declared.frame.Frame.{Frame}

abbrev pub frame_of : State → Frame
frame_of s = record { frames = s.frames; unit = s.modes.units }

abbrev pub start_frame : Setup → Frame
start_frame setup = frame_of (start_state setup.machine)

-- the change that a line makes, if it makes one, where `count` commands were executed before the line
abbrev pub change_at : ℕ → ℕ → Frame → Frame → List FrameChange
change_at number count old new = if is_same_frame old new then []
    else record { line = number; command = count; frame = new } ∷ []

-- nothing follows an end
abbrev pub go_on : Bool → State → (State → List FrameChange) → List FrameChange
go_on true s rest = []
go_on false s rest = rest s

-- the change of a line that led from one state to another, and then those of the lines after it;
-- none if the line is refused
abbrev pub then_changes : ℕ → State → Result State ProgramFault →
    (State → List FrameChange) → List FrameChange
then_changes number s (Ok t) rest =
    change_at number (length s.commands) (frame_of s) (frame_of t) ++ go_on t.ended t rest
then_changes number s (Err e) rest = []

-- the changes of lines in order
unfoldable pub changes_from : Setup → List NumberedLine → State → List FrameChange
changes_from setup [] s = []
changes_from setup (line ∷ lines) s =
    then_changes line.number s (after_line setup false line.number line.reading s)
    (λ t. changes_from setup lines t)

-- the changes of a program's lines, at a setting of block delete
abbrev pub frame_changes : Setup → List NumberedLine → Bool → List FrameChange
frame_changes setup lines block_delete =
    changes_from setup (remaining block_delete lines) (start_state setup.machine)

-- Which commands of a program are warned of. Our own.
use Rattle.std.specs.Prelude.{ℕ, ◌+◌, ◌==◌, ℤ, List, [], ◌∷◌, ◌++◌, replicate, slice_index_or}
use Rattle.std.specs.Prelude.{slice_set, Option, Some, None, Bool, false, if◌then◌else◌}
use Rattle.ngc_commands.specs.declared.command.Command.{Command}
use Rattle.ngc_frames.specs.InForce.{frame_in_force}
use Rattle.ngc_frames.specs.declared.change.FrameChange.{FrameChange}
use Rattle.ngc_frames.specs.declared.frame.Frame.{Frame}
use Rattle.ngc_machine_files.specs.Machine.{MachineFile}
use Rattle.ngc_machine_files.specs.declared.tools.Tool.{Tool}
use Rattle.ngc_offsets.specs.Frames.{index}
use Rattle.ngc_report.specs.declared.form.Form.{Form}
use Rattle.ngc_origin_warnings.specs.Origins.{lowest, origin_of}
use Rattle.ngc_origin_warnings.specs.Texts.{warning_text}
use Rattle.ngc_origin_warnings.specs.declared.origin.Origin.{Origin}

-- the line that the last warning of each coordinate system named
abbrev pub none_warned : List (Option ℕ)
none_warned = replicate 9 None

abbrev pub is_line : ℕ → Option ℕ → Bool
is_line line None = false
is_line line (Some last) = last == line

abbrev pub is_warned : List (Option ℕ) → Origin → Bool
is_warned warned o = is_line o.line (slice_index_or warned (index o.system) None)

-- an origin is new unless the last warning of its system named the same line
abbrev pub if_new : List (Option ℕ) → Option Origin → Option Origin
if_new warned None = None
if_new warned (Some o) = if is_warned warned o then None else Some o

abbrev pub with_warned : List (Option ℕ) → Option Origin → List (Option ℕ)
with_warned warned None = warned
with_warned warned (Some o) = slice_set warned (index o.system) (Some o.line)

-- the origin for which command k is warned of, after these warnings
abbrev pub new_origin : MachineFile → ℤ → Frame → List FrameChange → List (Option ℕ) → ℕ → Command →
    Option Origin
new_origin m low start changes warned k c =
    if_new warned (origin_of m low (frame_in_force start changes k) c.action)

-- the warnings of the commands from command k on, where the program has these frames
abbrev pub warnings_from : Form → MachineFile → ℤ → Frame → List FrameChange →
    List (Option ℕ) → ℕ → List Command → List ℕ
warnings_from form m low start changes warned k [] = []
warnings_from form m low start changes warned k (c ∷ cs) =
    warning_text form c.line (new_origin m low start changes warned k c)
    ++ warnings_from form m low start changes
    (with_warned warned (new_origin m low start changes warned k c)) (k + 1) cs

-- the warnings of a program on a machine with its tools
abbrev pub origin_warnings : Form → MachineFile → List Tool → Frame → List FrameChange →
    List Command → List ℕ
origin_warnings form m tools start changes commands =
    warnings_from form m (lowest tools) start changes none_warned 0 commands

-- Feeds with a tool length offset that isn't the mounted tool's. Our own.
use Rattle.std.specs.Prelude.{ℕ, ◌+◌, ℤ, pos, ◌-ℤ◌, int_lt, nat_le, unsigned_abs, List, [], ◌∷◌, ◌++◌, length}
use Rattle.std.specs.Prelude.{Option, Some, None, Bool, false, not, ◌&&◌, ◌||◌, if◌then◌else◌}
use Rattle.std.specs.Ordering.{int_eq}
use Rattle.ngc_machine_files.specs.Machine.{MachineFile}
use Rattle.ngc_machine_files.specs.declared.tools.Tool.{Tool}
use Rattle.ngc_commands.specs.Movement.{end_of}
use Rattle.ngc_commands.specs.Reached.{after, at_start}
use Rattle.ngc_commands.specs.declared.command.Action.{Action}
use Rattle.ngc_commands.specs.declared.command.Action.TheVariants.{Move}
use Rattle.ngc_commands.specs.declared.command.Command.{Command}
use Rattle.ngc_commands.specs.declared.movement.Pace.{Pace}
use Rattle.ngc_commands.specs.declared.movement.Pace.TheVariants.{Rapid, Feed}
use Rattle.ngc_commands.specs.declared.reached.Reached.{Reached}
use Rattle.ngc_frames.specs.InForce.{frame_at}
use Rattle.ngc_frames.specs.declared.change.FrameChange.{FrameChange}
use Rattle.ngc_frames.specs.declared.frame.Frame.{Frame}
use Rattle.ngc_length_warnings.specs.declared.slip.Found.{Found}
use Rattle.ngc_length_warnings.specs.declared.slip.Kind.{Kind}
use Rattle.ngc_length_warnings.specs.declared.slip.Kind.TheVariants as kinds
use Rattle.ngc_length_warnings.specs.declared.slip.Slip.{Slip}
use Rattle.ngc_length_warnings.specs.declared.slip.Slip.TheVariants as slips
use Rattle.ngc_length_warnings.specs.declared.slip.Slips.{Slips}

-- the length offset by which command k is executed
abbrev pub length_at : Frame → List FrameChange → ℕ → ℤ
length_at start changes k = (frame_at start changes k).frames.length

-- it differs from that of a tool by 10 nm or more
abbrev pub is_apart : ℤ → Tool → Bool
is_apart force tool = nat_le 10 (unsigned_abs (force -ℤ tool.offset))

-- the mistake of a kind where this tool feeds, with this offset in force
abbrev pub tool_slip : Kind → ℤ → Bool → Tool → Option Slip
tool_slip kinds.Missing force down tool =
    if down && (int_eq force (pos 0) && is_apart force tool)
    then Some (slips.Missing tool.number tool.offset) else None
tool_slip kinds.Other force down tool =
    if not (int_eq force (pos 0)) && is_apart force tool
    then Some (slips.Other tool.number tool.offset force) else None

abbrev pub mounted_slip : Kind → ℤ → Bool → Option Tool → Option Slip
mounted_slip kind force down None = None
mounted_slip kind force down (Some tool) = tool_slip kind force down tool

abbrev pub paced_slip : Kind → ℤ → Bool → Option Tool → Pace → Option Slip
paced_slip kind force down tool Rapid = None
paced_slip kind force down tool (Feed feed) = mounted_slip kind force down tool

-- the mistake of a kind in an action, with this offset in force
abbrev pub slip_in : Kind → ℤ → Reached → Action → Option Slip
slip_in kind force r (Move m) =
    paced_slip kind force (int_lt (end_of m.way).z r.place.z) r.tool m.pace
slip_in kind force r _ = None

abbrev pub found_in : ℕ → Option Slip → List Found
found_in line None = []
found_in line (Some slip) = record { line = line; slip = slip } ∷ []

-- the mistakes of a kind in these commands, in order; the first of them is command k
abbrev pub all_found : Kind → Frame → List FrameChange → ℕ → Reached → List Command → List Found
all_found kind start changes k r [] = []
all_found kind start changes k r (c ∷ cs) =
    found_in c.line (slip_in kind (length_at start changes k) r c.action)
    ++ all_found kind start changes (k + 1) (after r c.action) cs

-- the first and the number of all, or none
abbrev pub slips_among : List Found → Option Slips
slips_among [] = None
slips_among (f ∷ fs) = Some (record { first = f; count = length (f ∷ fs) })

abbrev pub slips_of : Kind → MachineFile → Frame → List FrameChange → List Command → Option Slips
slips_of kind machine start changes commands =
    slips_among (all_found kind start changes 0 (at_start machine) commands)

-- ---- the count of mistakes

-- the count with one more command
abbrev pub counted : Option Slips → ℕ → Option Slip → Option Slips
counted found line None = found
counted None line (Some slip) =
    Some (record { first = record { line = line; slip = slip }; count = 1 })
counted (Some s) line (Some slip) = Some (record s { count = s.count + 1 })

-- the count with later mistakes
abbrev pub with_later : Option Slips → List Found → Option Slips
with_later None fs = slips_among fs
with_later (Some s) fs = Some (record s { count = s.count + length fs })

abbrev pub count_of : Option Slips → ℕ
count_of None = 0
count_of (Some s) = s.count

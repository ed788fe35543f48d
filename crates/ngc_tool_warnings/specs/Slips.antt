-- Mistakes with tools in a program that passes. Our own.
use Rattle.std.specs.Prelude.{ℕ, ◌+◌, ℤ, ◌+ℤ◌, ◌-ℤ◌, int_lt, int_le, List, [], ◌∷◌, ◌++◌, length}
use Rattle.std.specs.Prelude.{Option, Some, None, Bool, true, false, not, ◌&&◌, if◌then◌else◌}
use Rattle.ngc_machine_files.specs.Machine.{MachineFile}
use Rattle.ngc_machine_files.specs.declared.tools.Tool.{Tool}
use Rattle.ngc_commands.specs.Movement.{end_of}
use Rattle.ngc_commands.specs.declared.command.Action.{Action}
use Rattle.ngc_commands.specs.declared.command.Action.TheVariants.{Move, Mount, Stop, OptionalStop}
use Rattle.ngc_commands.specs.declared.command.Command.{Command}
use Rattle.ngc_commands.specs.declared.movement.Pace.{Pace}
use Rattle.ngc_commands.specs.declared.movement.Pace.TheVariants.{Rapid, Feed}
use Rattle.ngc_commands.specs.declared.movement.Way.{Way}
use Rattle.ngc_tool_warnings.specs.Betweens.{beginning, is_upright, next}
use Rattle.ngc_tool_warnings.specs.declared.between.Between.{Between}
use Rattle.ngc_tool_warnings.specs.declared.slip.Found.{Found}
use Rattle.ngc_tool_warnings.specs.declared.slip.Kind.{Kind}
use Rattle.ngc_tool_warnings.specs.declared.slip.Kind.TheVariants as kinds
use Rattle.ngc_tool_warnings.specs.declared.slip.Slip.{Slip}
use Rattle.ngc_tool_warnings.specs.declared.slip.Slip.TheVariants as slips
use Rattle.ngc_tool_warnings.specs.declared.slip.Slips.{Slips}

-- ---- a change to a longer tool

-- a tool's bottom is measured from the spindle nose, and isn't above it
abbrev pub is_longer : Tool → Tool → Bool
is_longer old new = int_lt new.bottom old.bottom

-- a change at height z, below that of the start: the tip goes down
abbrev pub low_change : ℤ → ℤ → Option Tool → Option Tool → Option Slip
low_change start z (Some old) (Some new) =
    if int_lt z start && is_longer old new
    then Some (slips.LowChange (z +ℤ old.bottom) (z +ℤ new.bottom)) else None
low_change start z _ _ = None

-- ---- a traverse straight down

-- the program fed to this height where the axes are
abbrev pub is_free : Option ℤ → ℤ → Bool
is_free None z = false
is_free (Some deepest) z = int_le deepest z

-- to a height below that at which the first feed with the tool began
abbrev pub drop_to : Option ℤ → Option ℤ → ℤ → Option Slip
drop_to None fed z = None
drop_to (Some height) fed z =
    if int_lt z height && not (is_free fed z) then Some (slips.Drop (height -ℤ z)) else None

abbrev pub drop_with : Between → Way → Pace → Option Slip
drop_with b way Rapid =
    if is_upright way && int_lt (end_of way).z b.reached.place.z
    then drop_to b.began b.fed (end_of way).z else None
drop_with b way (Feed feed) = None

-- ---- a change without a stop

-- whether an action is a motion, and not a stop or another change; none if it is something else
abbrev pub moves : Action → Option Bool
moves (Move m) = Some true
moves Stop = Some false
moves OptionalStop = Some false
moves (Mount tool) = Some false
moves _ = None

abbrev pub or_later : Option Bool → Bool → Bool
or_later None later = later
or_later (Some moved) later = moved

-- the program moves before it stops, changes the tool again or ends
abbrev pub moves_on : List Command → Bool
moves_on [] = false
moves_on (c ∷ cs) = or_later (moves c.action) (moves_on cs)

-- a change between two motions without a stop, on a machine without a changer
abbrev pub bare_change : Bool → Between → List Command → Option Slip
bare_change changer b later =
    if not changer && (b.has_moved && (not b.has_stopped && moves_on later))
    then Some slips.BareChange else None

-- ---- over a program

-- the mistake of a kind in an action, with the state before it and the commands after it
abbrev pub slip_in : Kind → MachineFile → Between → Action → List Command → Option Slip
slip_in kinds.LowChange machine b (Mount tool) later =
    low_change machine.start.z b.reached.place.z b.reached.tool tool
slip_in kinds.Drop machine b (Move m) later = drop_with b m.way m.pace
slip_in kinds.BareChange machine b (Mount tool) later = bare_change machine.changer b later
slip_in kind machine b _ later = None

abbrev pub found_in : ℕ → Option Slip → List Found
found_in line None = []
found_in line (Some slip) = record { line = line; slip = slip } ∷ []

-- the mistakes of a kind in these commands, in order
abbrev pub all_found : Kind → MachineFile → Between → List Command → List Found
all_found kind machine b [] = []
all_found kind machine b (c ∷ cs) =
    found_in c.line (slip_in kind machine b c.action cs)
    ++ all_found kind machine (next b c.action) cs

-- the first and the number of all, or none
abbrev pub slips_among : List Found → Option Slips
slips_among [] = None
slips_among (f ∷ fs) = Some (record { first = f; count = length (f ∷ fs) })

abbrev pub slips_of : Kind → MachineFile → List Command → Option Slips
slips_of kind machine commands =
    slips_among (all_found kind machine (beginning machine) commands)

-- ---- the count of mistakes

-- the count with one more command
abbrev pub counted : Option Slips → ℕ → Option Slip → Option Slips
counted found line None = found
counted None line (Some slip) =
    Some (record { first = record { line = line; slip = slip }; count = 1 })
counted (Some s) line (Some slip) = Some (record s { count = s.count + 1 })

-- the count with later mistakes
abbrev pub with_later : Option Slips → List Found → Option Slips
with_later None fs = slips_among fs
with_later (Some s) fs = Some (record s { count = s.count + length fs })

abbrev pub count_of : Option Slips → ℕ
count_of None = 0
count_of (Some s) = s.count

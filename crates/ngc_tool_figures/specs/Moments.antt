-- The state between two commands, as far as the figures of a tool need it. Our own.
use Rattle.std.specs.Prelude.{ℕ, ◌==◌, Option, Some, None, Bool, true, false, ◌&&◌, if◌then◌else◌}
use Rattle.ngc_commands.specs.declared.command.Action.{Action}
use Rattle.ngc_commands.specs.declared.command.Action.TheVariants.{Move, Mount, Spindle}
use Rattle.ngc_commands.specs.declared.command.SpindleState.TheVariants.{Off}
use Rattle.ngc_machine_files.specs.declared.tools.Tool.{Tool}
use Rattle.ngc_tool_figures.specs.Dives.{dive_after}
use Rattle.ngc_tool_figures.specs.declared.dive.Dive.{Dive}
use Rattle.ngc_tool_figures.specs.declared.moment.Moment.{Moment}

-- the tool in the spindle has this number, or there is none and none is meant
abbrev pub is_mounted : Option ℕ → Option Tool → Bool
is_mounted None None = true
is_mounted (Some number) (Some tool) = number == tool.number
is_mounted _ _ = false

-- a program begins without a tool and with the spindle off
abbrev pub beginning : Option ℕ → Moment
beginning number = record { is_mounted = is_mounted number None; spindle = Off; dive = None }

-- a tool change turns the spindle off
abbrev pub next : Option ℕ → Moment → Action → Moment
next number m (Move motion) = record m { dive = dive_after m.dive motion }
next number m (Mount tool) =
    record { is_mounted = is_mounted number tool; spindle = Off; dive = None }
next number m (Spindle s) = record m { spindle = s }
next number m _ = m

-- 1 if the tool has drilled a hole where it is: it is above the bottom of its dive
abbrev pub counted : Bool → Option Dive → ℕ
counted mounted None = 0
counted mounted (Some d) = if mounted && d.is_out then 1 else 0

abbrev pub hole_count : Moment → ℕ
hole_count m = counted m.is_mounted m.dive

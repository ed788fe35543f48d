-- The state between two commands, as far as the limits of tools need it. Our own.
use Rattle.std.specs.Prelude.{List, Option, Some, None}
use Rattle.ngc_file_figures.specs.Limits.{limits_of}
use Rattle.ngc_file_figures.specs.declared.limits.ToolLimits.{ToolLimits}
use Rattle.ngc_machine_files.specs.declared.tools.Tool.{Tool}
use Rattle.ngc_commands.specs.declared.command.Action.{Action}
use Rattle.ngc_commands.specs.declared.command.Action.TheVariants.{Mount, Spindle}
use Rattle.ngc_commands.specs.declared.command.SpindleState.TheVariants.{Off}
use Rattle.ngc_limit_warnings.specs.declared.in_use.InUse.{InUse}

-- what a table says of a mounted tool besides its body
abbrev pub limits_with : List ToolLimits → Option Tool → Option ToolLimits
limits_with table None = None
limits_with table (Some tool) = limits_of tool.number table

-- a program begins without a tool and with the spindle off
abbrev pub beginning : InUse
beginning = record { limits = None; spindle = Off }

-- a tool change turns the spindle off
abbrev pub next : List ToolLimits → InUse → Action → InUse
next table u (Mount tool) = record { limits = limits_with table tool; spindle = Off }
next table u (Spindle s) = record u { spindle = s }
next table u _ = u

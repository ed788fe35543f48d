-- The mounted tool and the position of the axes, between two commands. Our own.
use Rattle.std.specs.Prelude.{Bool, true, false, List, fold, None}
use Rattle.ngc_machine_files.specs.Machine.{MachineFile}
use Rattle.ngc_commands.specs.declared.command.Action.{Action}
use Rattle.ngc_commands.specs.declared.command.Action.TheVariants.{Move, Mount}
use Rattle.ngc_commands.specs.declared.command.Command.{Command}
use Rattle.ngc_commands.specs.declared.reached.Reached.{Reached}
use Rattle.ngc_commands.specs.Movement.{actions_of, end_of}

-- an action that mounts another tool, or none
abbrev pub mounts : Action → Bool
mounts (Mount tool) = true
mounts _ = false

-- at the machine's start, with no tool mounted
abbrev pub at_start : MachineFile → Reached
at_start machine = record { tool = None; place = machine.start }

-- after an action
abbrev pub after : Reached → Action → Reached
after r (Move m) = record { tool = r.tool; place = end_of m.way }
after r (Mount tool) = record { tool = tool; place = r.place }
after r _ = r

-- after some more commands
abbrev pub after_all : Reached → List Command → Reached
after_all r commands = fold after r (actions_of commands)

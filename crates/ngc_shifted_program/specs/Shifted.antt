-- A program that is executed with the origin of a coordinate system shifted. Our own.
use Rattle.std.specs.Prelude.{◌≡◌, ℕ, ℤ, List, Bool, true, false, Option, Some, None, Result, Ok, Err}
use Rattle.ngc_fixed_length.specs.declared.modes.System.{System}
use Rattle.ngc_fixed_length.specs.declared.points.StepPos.{StepPos}
use Rattle.ngc_machine_files.specs.Machine.{MachineFile}
use Rattle.ngc_machine_files.specs.declared.tools.Tool.{Tool}
use Rattle.ngc_commands.specs.declared.command.Command.{Command}
use Rattle.ngc_canonical.specs.State.{Setup}
use Rattle.ngc_job.specs.Job.{JobData, commands_in}
use Rattle.ngc_place.specs.Marks.{AreMarks}
use Rattle.ngc_place.specs.declared.programs.Program.{Program as Marked}
use Rattle.ngc_shifted_program.specs.Executions.{Executed, Execution}
use Rattle.ngc_shifted_program.specs.Origins.{machine_shifted}

abbrev pub executed_on : Execution → List Tool → Option MachineFile → Option Executed
executed_on does tools None = None
executed_on does tools (Some machine) = does (record { machine = machine; tools = tools })

-- the commands of a program on the machine of a job with the origin of a system shifted
abbrev pub executed_at : Execution → JobData → System → StepPos → Option Executed
executed_at does j system n = executed_on does j.tools (machine_shifted j.machine system n)

-- marks of the commands of a job at both settings
abbrev pub AreBothMarks : JobData → StepPos → Executed → List Bool → List Bool → Type 0
AreBothMarks j n others off on =
    AreMarks j.machine.step n (commands_in false j) others.off off
    × AreMarks j.machine.step n (commands_in true j) others.on on

-- with the origin shifted, the commands that are marked move and the others stay, at both settings
abbrev pub AreMoved : ℤ → StepPos → Marked → Marked → Option Executed → Type 0
AreMoved step n off on None = ⊥
AreMoved step n off on (Some others) =
    AreMarks step n off.commands.now others.off off.moving.now
    × AreMarks step n on.commands.now others.on on.moving.now

abbrev pub MoveAt : Execution → JobData → System → Marked → Marked → StepPos → Type 0
MoveAt does j system off on n =
    AreMoved j.machine.step n off on (executed_at does j system n)

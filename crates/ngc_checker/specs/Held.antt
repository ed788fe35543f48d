-- The accepted part of a job, and the refusal for a fault of the program. Our own.
use Rattle.std.specs.Prelude.{List, true}
use Rattle.ngc_machine_files.specs.Machine.{MachineFile}
use Rattle.ngc_machine_files.specs.declared.tools.Tool.{Tool}
use Rattle.ngc_commands.specs.declared.command.Command.{Command}
use Rattle.ngc_canonical.specs.declared.fault.ProgramFault.{ProgramFault}
use Rattle.ngc_canonical.specs.declared.fault.ProgramFault.TheVariants.{At, Memory}
use Rattle.ngc_certificate_text.specs.declared.piece.Setting.{Setting}
use Rattle.ngc_checker.specs.declared.fault.CheckFault.{CheckFault}
use Rattle.ngc_checker.specs.declared.fault.CheckFault.TheVariants as faults
use Rattle.ngc_job.specs.Job.{JobData, commands_in}
use Rattle.ngc_checker.specs.Accepted.{AcceptedData}

abbrev pub held : MachineFile → List Tool → List Command → List Command → AcceptedData
held machine tools off on = record { machine = machine; tools = tools; off = off; on = on }

abbrev pub accepted_of : JobData → AcceptedData
accepted_of j = held j.machine j.tools j.off (commands_in true j)

-- lack of memory is no fault of the program
abbrev pub program_fault : Setting → ProgramFault → CheckFault
program_fault s (At line e) = faults.Program s (At line e)
program_fault s Memory = faults.Memory

-- A machine file of version 1, 2 or 3. Our own.
use Rattle.std.specs.Prelude.{ℕ, List, Option, Some, None, Result, Ok, Err, if◌then◌else◌}
use Rattle.toml.specs.Data.{Data}
use Rattle.ngc_machine_figures.specs.Version.{is_written}
use Rattle.ngc_machine_files.specs.Machine.{MachineFile}
use Rattle.ngc_machine_files.specs.MachineText.{machine_file}
use Rattle.ngc_machine_files.specs.Tree.{tree_of}
use Rattle.ngc_machine_files.specs.declared.fault.FileFault.{FileFault}
use Rattle.ngc_machine_files.specs.declared.fault.FileFault.TheVariants as faults
use Rattle.ngc_written_machines.specs.Machines.{written_machine}
use Rattle.ngc_written_machines.specs.Refusals.{fault_of}
use Rattle.ngc_written_machines.specs.declared.refusal.WrittenFault.{WrittenFault}
use Rattle.ngc_written_machines.specs.declared.refusal.WrittenFault.TheVariants.{Memory, Refused}
use Rattle.ngc_written_machines.specs.declared.refusal.WrittenRefusal.{WrittenRefusal}

-- the fault of a call
abbrev pub file_fault : WrittenFault → FileFault
file_fault Memory = faults.Memory
file_fault (Refused refusal) = fault_of refusal

abbrev pub as_fault : Result MachineFile WrittenRefusal → Result MachineFile FileFault
as_fault (Ok machine) = Ok machine
as_fault (Err refusal) = Err (fault_of refusal)

abbrev pub written_file : Data → Result MachineFile FileFault
written_file tree = as_fault (written_machine tree)

abbrev pub machine_in : List ℕ → Option Data → Result MachineFile FileFault
machine_in bytes None = machine_file bytes
machine_in bytes (Some tree) = if is_written tree then written_file tree else machine_file bytes

-- the machine that a file of any version describes, or why it is refused
unfoldable pub any_machine : List ℕ → Result MachineFile FileFault
any_machine bytes = machine_in bytes (tree_of bytes)

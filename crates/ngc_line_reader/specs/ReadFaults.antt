-- The numbers of the faults of reading a program.
use Rattle.std.specs.Prelude.{ℕ}
use Rattle.ngc_line_reader.specs.declared.program.fault.ReadFault.{ReadFault}
use Rattle.ngc_line_reader.specs.declared.program.fault.ReadFault.TheVariants.{Line, NoEnd}
use Rattle.ngc_line_reader.specs.declared.program.fault.ReadFault.TheVariants.{TooManyLines, Memory}
use Rattle.ngc_line_reader.specs.declared.program.fault.ReadFault.TheVariants.{Device}
use Rattle.ngc_line_reader.specs.Fault.{number_of as line_fault_number}

-- the number of a fault: a line's fault has the number of its kind
abbrev pub number_of : ReadFault → ℕ
number_of (Line line fault) = line_fault_number fault.kind
number_of NoEnd = 121
number_of TooManyLines = 122
number_of Memory = 900
number_of Device = 901

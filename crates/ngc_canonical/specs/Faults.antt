-- The numbers of faults. Our own.
use Rattle.std.specs.Prelude.{ℕ}
use Rattle.ngc_fixed_length.specs.NumberFault.{number_of as arithmetic_number}
use Rattle.ngc_parameters.specs.Fault.{number_of as value_number}
use Rattle.ngc_modal_state.specs.Faults.{number as modal_number}
use Rattle.ngc_arc_geometry.specs.Faults.{number_of as arc_number}
use Rattle.ngc_canned_cycles.specs.Faults.{number_of as cycle_number}
use Rattle.ngc_offsets.specs.Faults.{number_of as frame_number}
use Rattle.ngc_canonical.specs.declared.fault.Fault.{Fault}
use Rattle.ngc_canonical.specs.declared.fault.Fault.TheVariants.{Value, Modal, Length, Frame, Cycle}
use Rattle.ngc_canonical.specs.declared.fault.Fault.TheVariants.{Arc, FeedZero, NoEnd}
use Rattle.ngc_canonical.specs.declared.fault.Fault.TheVariants.{TooManyCommands, CycleBeyondRange}
use Rattle.ngc_canonical.specs.declared.fault.Fault.TheVariants.{NoSuchTool}
use Rattle.ngc_canonical.specs.declared.fault.ProgramFault.{ProgramFault}
use Rattle.ngc_canonical.specs.declared.fault.ProgramFault.TheVariants as programs

abbrev pub fault_number : Fault → ℕ
fault_number (Value e) = value_number e
fault_number (Modal e) = modal_number e
fault_number (Length e) = arithmetic_number e
fault_number (Frame e) = frame_number e
fault_number (CycleBeyondRange reach) = 221
fault_number (NoSuchTool n) = 222
fault_number (Cycle e) = cycle_number e
fault_number (Arc e) = arc_number e
fault_number FeedZero = 252
fault_number NoEnd = 120
fault_number TooManyCommands = 251

abbrev pub program_number : ProgramFault → ℕ
program_number (programs.At line e) = fault_number e
program_number programs.Memory = 900

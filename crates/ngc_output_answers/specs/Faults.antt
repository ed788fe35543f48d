-- The lines about a file that isn't written. Our own.
use Rattle.std.specs.Prelude.{ℕ, List, codes}
use Rattle.ngc_output_answers.specs.declared.fault.OutputFault.{OutputFault}
use Rattle.ngc_output_answers.specs.declared.fault.OutputFault.TheVariants as faults

abbrev pub output_fault_text : OutputFault → List ℕ
output_fault_text faults.Input = codes "ngc: fault 902\nngc: the file of --out is one that the command reads\n"
output_fault_text faults.NotMade = codes "ngc: fault 902\nngc: the file of --out can't be made\n"
output_fault_text faults.NotWritten = codes "ngc: fault 902\nngc: the file of --out can't be written\n"

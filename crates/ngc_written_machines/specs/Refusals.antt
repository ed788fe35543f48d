-- The fault of a machine file that a mistake of version 3 is. Our own.
use Rattle.ngc_machine_files.specs.declared.fault.FileFault.{FileFault}
use Rattle.ngc_machine_files.specs.declared.fault.FileFault.TheVariants as faults
use Rattle.ngc_machine_maker.specs.declared.refusal.FigureRefusal.{FigureRefusal}
use Rattle.ngc_machine_maker.specs.declared.refusal.FigureRefusal.TheVariants as figures
use Rattle.ngc_written_machines.specs.declared.refusal.WrittenRefusal.{WrittenRefusal}
use Rattle.ngc_written_machines.specs.declared.refusal.WrittenRefusal.TheVariants as refusals

abbrev pub figure_fault : FigureRefusal → FileFault
figure_fault figures.Step = faults.Step
figure_fault (figures.Travel axis) = faults.Travel
figure_fault (figures.FarTravel axis) = faults.Travel
figure_fault _ = faults.Rates

abbrev pub fault_of : WrittenRefusal → FileFault
fault_of (refusals.Sheet refusal) = faults.Document
fault_of (refusals.Motor axis refusal) = faults.Step
fault_of (refusals.Figure refusal) = figure_fault refusal
fault_of (refusals.Range fault) = fault

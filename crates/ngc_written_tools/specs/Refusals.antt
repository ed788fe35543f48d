-- The fault of a tool table that a mistake of version 3 is. Our own.
use Rattle.ngc_machine_files.specs.declared.fault.FileFault.{FileFault}
use Rattle.ngc_machine_files.specs.declared.fault.FileFault.TheVariants as faults
use Rattle.ngc_machine_figures.specs.declared.refusal.Wrong.{Wrong}
use Rattle.ngc_machine_figures.specs.declared.refusal.Wrong.TheVariants as wrongs
use Rattle.ngc_machine_figures.specs.declared.tool_key.ToolWrong.{ToolWrong}
use Rattle.ngc_machine_figures.specs.declared.tool_key.ToolWrong.TheVariants as tools
use Rattle.ngc_written_tools.specs.declared.refusal.ToolsRefusal.{ToolsRefusal}
use Rattle.ngc_written_tools.specs.declared.refusal.ToolsRefusal.TheVariants as refusals

-- 269 where a key is missing or can't be read; 268 where a number is out of its range, or lengths don't
-- fit each other
abbrev pub tool_fault : ToolWrong → FileFault
tool_fault tools.NoTools = faults.Document
tool_fault tools.NoHolder = faults.Document
tool_fault tools.NoPart = faults.Document
tool_fault tools.NoLength = faults.Document
tool_fault tools.LoneShank = faults.Document
tool_fault tools.NoCutter = faults.Document
tool_fault tools.LonePoint = faults.Document
tool_fault _ = faults.Tools

abbrev pub key_fault : Wrong → FileFault
key_fault (wrongs.Tool wrong) = tool_fault wrong
key_fault _ = faults.Document

abbrev pub fault_of : ToolsRefusal → FileFault
fault_of (refusals.Key refusal) = key_fault refusal.wrong
fault_of (refusals.Range fault) = fault

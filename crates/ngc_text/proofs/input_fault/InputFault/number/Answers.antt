use Rattle.std.proofs.Common.{rules}
use Rattle.ngc_text.proofs.input_fault.InputFault.number.Goals as goal

pub returns-in-Device : goal.returns-in-Device
returns-in-Device c = search rules

pub returns-in-Device-2 : goal.returns-in-Device-2
returns-in-Device-2 c = search rules

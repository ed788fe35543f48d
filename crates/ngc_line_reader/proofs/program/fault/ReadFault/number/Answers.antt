use Rattle.std.proofs.Common.{rules}
use Rattle.ngc_line_reader.proofs.program.fault.ReadFault.number.Goals as goal

pub returns-in-NoEnd : goal.returns-in-NoEnd
returns-in-NoEnd c = search rules

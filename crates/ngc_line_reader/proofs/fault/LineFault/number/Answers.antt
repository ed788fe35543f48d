use Rattle.std.proofs.Common.{rules}
use Rattle.ngc_line_reader.proofs.fault.LineFault.number.Goals as goal

pub returns-in-BadWord : goal.returns-in-BadWord
returns-in-BadWord c = search rules

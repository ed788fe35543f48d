use Rattle.std.proofs.Common.{rules}
use Rattle.ngc_command_line.proofs.UsageFault.number.Goals as goal

pub returns-in-Usage : goal.returns-in-Usage
returns-in-Usage c = search rules

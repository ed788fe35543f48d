use Rattle.std.proofs.Common.{rules}
use Rattle.ngc_checker.proofs.fault.CheckFault.number.Goals as goal

pub returns-in-Start : goal.returns-in-Start
returns-in-Start c = search rules

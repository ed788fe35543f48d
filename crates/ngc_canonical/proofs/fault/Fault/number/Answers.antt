use Rattle.std.proofs.Common.{rules}
use Rattle.ngc_canonical.proofs.fault.Fault.number.Goals as goal

pub returns-in-NoEnd : goal.returns-in-NoEnd
returns-in-NoEnd c = search rules

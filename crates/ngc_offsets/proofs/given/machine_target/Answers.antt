use Rattle.std.proofs.Common.{rules}
use Rattle.ngc_offsets.proofs.given.machine_target.Goals as goal

pub returns-clause-value : goal.returns-clause-value
returns-clause-value c = search rules

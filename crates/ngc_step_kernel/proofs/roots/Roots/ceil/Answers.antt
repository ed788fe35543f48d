use Rattle.std.proofs.Common.{rules}
use Rattle.ngc_step_kernel.proofs.roots.Roots.ceil.Goals as goal

pub returns-clause-counted : goal.returns-clause-counted
returns-clause-counted c = search rules

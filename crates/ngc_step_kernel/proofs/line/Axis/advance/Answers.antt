use Rattle.std.proofs.Common.{rules}
use Rattle.ngc_step_kernel.proofs.line.Axis.advance.Goals as goal

pub returns-then-self : goal.returns-then-self
returns-then-self c = search rules

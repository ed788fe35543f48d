use Rattle.std.proofs.Common.{rules}
use Rattle.ngc_step_kernel.proofs.arc.in_space.Goals as goal

pub returns-in-XY : goal.returns-in-XY
returns-in-XY c = search rules

pub returns-in-ZX : goal.returns-in-ZX
returns-in-ZX c = search rules

pub returns-in-YZ : goal.returns-in-YZ
returns-in-YZ c = search rules

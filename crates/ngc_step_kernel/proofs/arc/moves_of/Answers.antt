use Rattle.std.proofs.Common.{rules}
use Rattle.ngc_step_kernel.proofs.arc.moves_of.Goals as goal

pub returns : goal.returns
returns c = search rules

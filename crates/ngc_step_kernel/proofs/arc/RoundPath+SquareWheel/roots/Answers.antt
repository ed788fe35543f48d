use Rattle.std.proofs.Common.{rules}
use Rattle.ngc_step_kernel.proofs.arc.RoundPath+SquareWheel.roots.Goals as goal

pub returns : goal.returns
returns c = search rules

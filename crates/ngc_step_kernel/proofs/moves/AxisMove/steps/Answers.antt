use Rattle.std.proofs.Common.{rules}
use Rattle.ngc_step_kernel.proofs.moves.AxisMove.steps.Goals as goal

pub returns-in-Back : goal.returns-in-Back
returns-in-Back c = search rules

pub returns-in-Forward : goal.returns-in-Forward
returns-in-Forward c = search rules

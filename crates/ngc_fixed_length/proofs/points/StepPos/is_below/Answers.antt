use Rattle.std.proofs.Common.{rules}
use Rattle.ngc_fixed_length.proofs.points.StepPos.is_below.Goals as goal

pub returns-then-self-other-2 : goal.returns-then-self-other-2
returns-then-self-other-2 c = search rules

pub returns-else-self-other-2 : goal.returns-else-self-other-2
returns-else-self-other-2 c = search rules

use Rattle.std.proofs.Common.{rules}
use Rattle.ngc_step_kernel.proofs.plan.Plan.round.Goals as goal

pub returns-clause-plan : goal.returns-clause-plan
returns-clause-plan g c = search rules

pub returns-clause-round : goal.returns-clause-round
returns-clause-round g c = search rules

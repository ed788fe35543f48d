use Rattle.std.proofs.Common.{rules}
use Rattle.ngc_planner.proofs.ramp.Ramp.rate.Goals as goal

pub returns-clause-value : goal.returns-clause-value
returns-clause-value g c = search rules

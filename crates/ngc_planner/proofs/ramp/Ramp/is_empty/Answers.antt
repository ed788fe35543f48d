use Rattle.std.proofs.Common.{rules}
use Rattle.ngc_planner.proofs.ramp.Ramp.is_empty.Goals as goal

pub returns : goal.returns
returns g c = search rules

use Rattle.std.proofs.Common.{rules}
use Rattle.ngc_braking.proofs.leg.Leg.is_due.Goals as goal

pub returns : goal.returns
returns c = search rules

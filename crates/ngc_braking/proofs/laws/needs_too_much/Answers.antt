use Rattle.ngc_braking.proofs.WorkLaws.{needs_too_much}
use Rattle.ngc_braking.proofs.laws.needs_too_much.Goals as goal

pub returns : goal.returns
returns c = needs_too_much

use Rattle.ngc_braking.proofs.AheadLaws.{least_matters}
use Rattle.ngc_braking.proofs.laws.least_matters.Goals as goal

pub returns : goal.returns
returns c = least_matters

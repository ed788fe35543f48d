use Rattle.ngc_braking.proofs.AheadLaws.{head_is_enough}
use Rattle.ngc_braking.proofs.laws.head_is_enough.Goals as goal

pub returns : goal.returns
returns c = head_is_enough

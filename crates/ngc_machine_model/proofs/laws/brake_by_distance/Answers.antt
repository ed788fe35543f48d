use Rattle.ngc_machine_model.proofs.RampFit.{all_by_distance}
use Rattle.ngc_machine_model.proofs.laws.brake_by_distance.Goals as goal

pub returns : goal.returns
returns c = all_by_distance

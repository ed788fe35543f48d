use Rattle.ngc_machine_model.proofs.EndsInTime.{ends_in_time}
use Rattle.ngc_machine_model.proofs.laws.ends_in_time.Goals as goal

pub returns : goal.returns
returns c = ends_in_time

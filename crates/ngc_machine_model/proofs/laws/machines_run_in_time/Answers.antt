use Rattle.ngc_machine_model.proofs.EndsInTime.{machines_run_in_time}
use Rattle.ngc_machine_model.proofs.laws.machines_run_in_time.Goals as goal

pub returns : goal.returns
returns c = machines_run_in_time

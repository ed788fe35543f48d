use Rattle.ngc_machine_model.proofs.RatesOfRun.{rates_of_run}
use Rattle.ngc_machine_model.proofs.laws.rates.Goals as goal

pub returns : goal.returns
returns c = rates_of_run

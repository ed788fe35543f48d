use Rattle.ngc_machine_model.proofs.Headline.{accepted_runs_safely}
use Rattle.ngc_machine_model.proofs.laws.accepted_runs_safely.Goals as goal

pub returns : goal.returns
returns c = accepted_runs_safely

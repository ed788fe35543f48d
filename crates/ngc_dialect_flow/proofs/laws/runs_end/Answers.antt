use Rattle.ngc_dialect_flow.proofs.FuelLaws.{runs_end}
use Rattle.ngc_dialect_flow.proofs.laws.runs_end.Goals as goal

pub returns : goal.returns
returns c = runs_end

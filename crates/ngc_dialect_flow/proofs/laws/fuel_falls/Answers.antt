use Rattle.ngc_dialect_flow.proofs.FuelLaws.{fuel_falls}
use Rattle.ngc_dialect_flow.proofs.laws.fuel_falls.Goals as goal

pub returns : goal.returns
returns c = fuel_falls

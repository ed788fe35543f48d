use Rattle.ngc_material.proofs.Reports.{nothing}
use Rattle.ngc_material.proofs.laws.nothing.Goals as goal

pub returns : goal.returns
returns c = nothing

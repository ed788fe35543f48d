use Rattle.ngc_material.proofs.Reports.{unreported}
use Rattle.ngc_material.proofs.laws.unreported.Goals as goal

pub returns : goal.returns
returns c = unreported

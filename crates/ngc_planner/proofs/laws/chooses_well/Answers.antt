use Rattle.ngc_planner.proofs.StretchLaws.{chooses_well}
use Rattle.ngc_planner.proofs.laws.chooses_well.Goals as goal

pub returns : goal.returns
returns c = chooses_well

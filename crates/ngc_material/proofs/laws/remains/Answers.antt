use Rattle.ngc_material.proofs.Remains.{remains}
use Rattle.ngc_material.proofs.laws.remains.Goals as goal

pub returns : goal.returns
returns c = remains

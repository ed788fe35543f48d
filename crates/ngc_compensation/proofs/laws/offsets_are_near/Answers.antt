use Rattle.ngc_compensation.proofs.Near as near
use Rattle.ngc_compensation.proofs.laws.offsets_are_near.Goals as goal

pub returns : goal.returns
returns c = near.offsets_are_near

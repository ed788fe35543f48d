use Rattle.ngc_place.proofs.GrowingIntervals.{both_law}
use Rattle.ngc_place.proofs.laws.both_are_certified.Goals as goal

pub returns : goal.returns
returns c = both_law

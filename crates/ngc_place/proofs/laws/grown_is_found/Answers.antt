use Rattle.ngc_place.proofs.GrowingIntervals.{found_law}
use Rattle.ngc_place.proofs.laws.grown_is_found.Goals as goal

pub returns : goal.returns
returns c = found_law

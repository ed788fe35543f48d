use Rattle.ngc_place.proofs.HoldsLaws.{within_law}
use Rattle.ngc_place.proofs.laws.holds_within.Goals as goal

pub returns : goal.returns
returns c = within_law

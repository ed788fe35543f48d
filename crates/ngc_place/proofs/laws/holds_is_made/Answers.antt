use Rattle.ngc_place.proofs.HoldsLaws.{made_law, certified_law}
use Rattle.ngc_place.proofs.laws.holds_is_made.Goals as goal

pub returns-clause-made : goal.returns-clause-made
returns-clause-made c = made_law

pub returns-clause-certified : goal.returns-clause-certified
returns-clause-certified c = certified_law

use Rattle.ngc_motors.proofs.Quotients.{between_law, by_one_law, nearest_law, rises_law, whole_law}
use Rattle.ngc_motors.proofs.laws.counts_follow.Goals as goal

pub returns-clause-nearest : goal.returns-clause-nearest
returns-clause-nearest c = nearest_law

pub returns-clause-rises : goal.returns-clause-rises
returns-clause-rises c = rises_law

pub returns-clause-by_one : goal.returns-clause-by_one
returns-clause-by_one c = by_one_law

pub returns-clause-whole : goal.returns-clause-whole
returns-clause-whole c = whole_law

pub returns-clause-between : goal.returns-clause-between
returns-clause-between c = between_law

use Rattle.ngc_lowest_laws.proofs.Added.{lowest_of_each}
use Rattle.ngc_lowest_laws.proofs.laws.lowest_of_each.Goals as goal

pub returns : goal.returns
returns c = lowest_of_each

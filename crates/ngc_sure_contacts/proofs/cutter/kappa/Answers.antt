use Rattle.ngc_material.proofs.Tips.{kappa_small}
use Rattle.ngc_sure_contacts.proofs.cutter.kappa.Goals as goal

pub returns-clause-bound : goal.returns-clause-bound
returns-clause-bound c = kappa_small c.args.grid.now.half c.root_ceil.result c.requires (rw c.from-half.ensures at c.root_ceil.ensures.least)

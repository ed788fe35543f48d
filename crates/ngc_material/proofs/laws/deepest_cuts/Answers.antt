use Rattle.ngc_material.proofs.DeepestFeeds.{deepest_cuts}
use Rattle.ngc_material.proofs.laws.deepest_cuts.Goals as goal

pub returns : goal.returns
returns c = deepest_cuts

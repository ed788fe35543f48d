use Rattle.ngc_arc_geometry.proofs.CutChain.{covered_by_cuts}
use Rattle.ngc_arc_geometry.proofs.laws.covered_by_cuts.Goals as goal

pub returns : goal.returns
returns c = covered_by_cuts

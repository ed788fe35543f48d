use Rattle.ngc_circle_laws.proofs.WalkLaw.{walks_follow}
use Rattle.ngc_circle_laws.proofs.laws.walks_follow.Goals as goal

pub returns : goal.returns
returns c = walks_follow

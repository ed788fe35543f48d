use Rattle.ngc_circle_walk.proofs.CircleLaws.{stays_near}
use Rattle.ngc_circle_walk.proofs.laws.stays_near.Goals as goal

pub returns : goal.returns
returns c = stays_near

use Rattle.ngc_circle_walk.proofs.CircleLaws.{never_turns_back}
use Rattle.ngc_circle_walk.proofs.laws.never_turns_back.Goals as goal

pub returns : goal.returns
returns c = never_turns_back

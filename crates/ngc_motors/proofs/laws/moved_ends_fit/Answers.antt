use Rattle.ngc_motors.proofs.Ends.{ends_law}
use Rattle.ngc_motors.proofs.laws.moved_ends_fit.Goals as goal

pub returns : goal.returns
returns c = ends_law

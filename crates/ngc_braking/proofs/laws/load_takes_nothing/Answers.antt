use Rattle.ngc_braking.proofs.AheadLaws.{brakes_loaded}
use Rattle.ngc_braking.proofs.laws.load_takes_nothing.Goals as goal

pub returns : goal.returns
returns c = brakes_loaded

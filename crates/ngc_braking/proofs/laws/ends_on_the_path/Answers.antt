use Rattle.ngc_braking.proofs.AheadLaws.{ends_on_path}
use Rattle.ngc_braking.proofs.laws.ends_on_the_path.Goals as goal

pub returns : goal.returns
returns c = ends_on_path

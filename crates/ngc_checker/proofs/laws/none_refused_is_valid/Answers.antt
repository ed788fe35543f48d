use Rattle.ngc_checker.proofs.NoRefusal.{law}
use Rattle.ngc_checker.proofs.laws.none_refused_is_valid.Goals as goal

pub returns : goal.returns
returns c = law

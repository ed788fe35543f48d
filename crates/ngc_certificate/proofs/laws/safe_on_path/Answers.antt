use Rattle.ngc_certificate.proofs.SafeOnPath.{safe_on_path as law}
use Rattle.ngc_certificate.proofs.laws.safe_on_path.Goals as goal

pub returns : goal.returns
returns c = law

use Rattle.ngc_certificate.proofs.TraverseLaws.{each_way_law}
use Rattle.ngc_certificate.proofs.laws.valid_is_safe_each_way.Goals as goal

pub returns : goal.returns
returns c = each_way_law

use Rattle.ngc_place_report.proofs.CertifiedLaws.{ends_law}
use Rattle.ngc_place_report.proofs.laws.ends_are_certified.Goals as goal

pub returns : goal.returns
returns c = ends_law

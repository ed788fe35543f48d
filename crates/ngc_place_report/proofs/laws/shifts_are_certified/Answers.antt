use Rattle.ngc_place_report.proofs.CertifiedLaws.{shifts_law}
use Rattle.ngc_place_report.proofs.laws.shifts_are_certified.Goals as goal

pub returns : goal.returns
returns c = shifts_law

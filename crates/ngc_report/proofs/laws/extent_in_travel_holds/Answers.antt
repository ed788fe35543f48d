use Rattle.ngc_report.proofs.ExtentInTravel.{holds_law}
use Rattle.ngc_report.proofs.laws.extent_in_travel_holds.Goals as goal

pub returns : goal.returns
returns c = holds_law

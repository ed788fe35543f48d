use Rattle.ngc_findings.proofs.Tests.{room_law}
use Rattle.ngc_report.proofs.laws.space_is_reported.Goals as goal

pub returns : goal.returns
returns c = room_law

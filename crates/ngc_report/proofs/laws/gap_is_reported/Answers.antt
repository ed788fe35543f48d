use Rattle.ngc_findings.proofs.Tests.{gap_law}
use Rattle.ngc_report.proofs.laws.gap_is_reported.Goals as goal

pub returns : goal.returns
returns c = gap_law

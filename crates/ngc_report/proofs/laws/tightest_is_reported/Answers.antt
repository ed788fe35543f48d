use Rattle.ngc_findings.proofs.Tests.{tightest_law}
use Rattle.ngc_report.proofs.laws.tightest_is_reported.Goals as goal

pub returns : goal.returns
returns c = tightest_law

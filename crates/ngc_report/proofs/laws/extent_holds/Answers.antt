use Rattle.ngc_report.proofs.ExtentHoldsPoints.{paths_law, start_law}
use Rattle.ngc_report.proofs.laws.extent_holds.Goals as goal

pub returns-clause-paths : goal.returns-clause-paths
returns-clause-paths c = paths_law

pub returns-clause-start : goal.returns-clause-start
returns-clause-start c = start_law

use Rattle.ngc_report.proofs.Fitting.{inside_law}
use Rattle.ngc_report.proofs.ExtentInTravel.{setting_law}
use Rattle.ngc_report.proofs.laws.fit_stays_inside.Goals as goal

pub returns-clause-program : goal.returns-clause-program
returns-clause-program c = inside_law

pub returns-clause-setting : goal.returns-clause-setting
returns-clause-setting c = setting_law

use Rattle.ngc_motor_laws.proofs.CallFits.{built_in_law, files_law}
use Rattle.ngc_motor_laws.proofs.laws.machines_of_calls_fit.Goals as goal

pub returns-clause-files : goal.returns-clause-files
returns-clause-files c = files_law

pub returns-clause-built_in : goal.returns-clause-built_in
returns-clause-built_in c = built_in_law

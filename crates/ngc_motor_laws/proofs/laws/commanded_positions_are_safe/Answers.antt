use Rattle.ngc_motor_laws.proofs.Commanding.{safe_law, run_law}
use Rattle.ngc_motor_laws.proofs.laws.commanded_positions_are_safe.Goals as goal

pub returns-clause-positions : goal.returns-clause-positions
returns-clause-positions c = safe_law

pub returns-clause-runs : goal.returns-clause-runs
returns-clause-runs c = run_law

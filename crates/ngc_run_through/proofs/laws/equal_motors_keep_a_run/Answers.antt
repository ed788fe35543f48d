use Rattle.ngc_run_through.proofs.Counted.{equal_law}
use Rattle.ngc_run_through.proofs.laws.equal_motors_keep_a_run.Goals as goal

pub returns : goal.returns
returns c = equal_law

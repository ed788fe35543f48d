use Rattle.ngc_run_through.proofs.ResultForms.{logged_through}
use Rattle.ngc_run_through.proofs.through.run_through.Goals as goal

pub returns-clause-runs_to_end : goal.returns-clause-runs_to_end
returns-clause-runs_to_end g c = logged_through _ _ _ c.run_to_end_as.result c.run_to_end_as.ensures.runs_to_end

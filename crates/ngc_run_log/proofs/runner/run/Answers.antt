use Rattle.ngc_run_through.proofs.ResultForms.{logged}
use Rattle.ngc_run_log.proofs.runner.run.Goals as goal

pub returns-clause-comes : goal.returns-clause-comes
returns-clause-comes g c = logged _ _ _ _ c.run_as.result c.run_as.ensures.comes

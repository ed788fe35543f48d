use Rattle.ngc_checker.specs.CheckView.{accepted_in, outcome_in}
use Rattle.ngc_checker.proofs.SourceLaws.{of_job}
use Rattle.ngc_checker.proofs.read.check_job_source.Goals as goal

pub returns-clause-said : goal.returns-clause-said
returns-clause-said g c = of_job c.args.job (outcome_in c.for_job.result) (accepted_in c.for_job.result) c.for_job.ensures.text c.for_job.ensures.keeps
    _ c.check_pulled.result c.check_pulled.ensures.said

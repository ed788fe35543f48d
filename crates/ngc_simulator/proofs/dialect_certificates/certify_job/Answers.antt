use Rattle.std.proofs.Common.{true}
use Rattle.ngc_certificate.specs.Plans.{both_planned}
use Rattle.ngc_job.specs.Job.{commands_in}
use Rattle.ngc_inputs.proofs.JobLaws.{keeps_same}
use Rattle.ngc_simulator.proofs.DialectLaws.{job_certified}
use Rattle.ngc_simulator.proofs.dialect_certificates.certify_job.Goals as goal

pub returns-in-Err-clause-certifies : goal.returns-in-Err-clause-certifies
returns-in-Err-clause-certifies g c = (c.in-Err.ensures.made, keeps_same _)

pub returns-clause-certifies : goal.returns-clause-certifies
returns-clause-certifies g c =
    let j = c.args.job.now in
    job_certified j c.args.cuts c.args.format (both_planned j.machine.step j.off (commands_in true j) c.in-Ok.plans) _ _ c.write_plans.result
    c.in-Ok.ensures.made c.write_plans.ensures.writes

use Rattle.ngc_canonical.specs.Interpreter.{setup_of}
use Rattle.ngc_simulator.proofs.DialectLaws.{job_refused}
use Rattle.ngc_simulator.proofs.dialect_certificates.job_of_text.Goals as goal

pub returns-clause-job : goal.returns-clause-job
returns-clause-job c =
    job_refused c.args.dialect (setup_of c.args.shop.machine c.args.shop.tools) c.args.text.now c.in-Err.refusal.setting c.in-Err.refusal.fault
    c.in-At.line c.in-At.cause c.in_ok-notes-in-At.notes c.in-At.is c.in-Err.ensures c.in_ok-notes-in-At.ensures.notes

use Rattle.ngc_job_calls.proofs.Stopped.{said_nothing}
use Rattle.ngc_job_calls.proofs.words.no_document.Goals as goal

pub returns-in-Err : goal.returns-in-Err
returns-in-Err c = said_nothing c.args.name.now c.args.bytes.now

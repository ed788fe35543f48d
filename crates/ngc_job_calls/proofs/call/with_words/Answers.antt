use Rattle.std.proofs.Common.{map}
use Rattle.ngc_job_calls.proofs.Outcomes.{unsaid}
use Rattle.ngc_job_calls.proofs.call.with_words.Goals as goal

pub returns-in-Err : goal.returns-in-Err
returns-in-Err c =
    unsaid c.args.name.now c.args.bytes.now (map (λ w. w.now) c.args.words.items) c.in-Err.fault
    (rw c.as_slice.ensures.value at c.in-Err.ensures)

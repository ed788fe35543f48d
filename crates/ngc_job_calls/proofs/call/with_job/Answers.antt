use Rattle.std.proofs.Common.{None, Ok, Some, map}
use Rattle.ngc_inputs.specs.Unread.{SourceFails}
use Rattle.ngc_job_words.specs.Asked.{asked_of, asked_values}
use Rattle.ngc_job_words.specs.Folders.{file_in}
use Rattle.ngc_job_calls.proofs.Outcomes.{found, memory, refused}
use Rattle.ngc_job_calls.proofs.call.with_job.Goals as goal

pub returns-in-Err-clause-call : goal.returns-in-Err-clause-call
returns-in-Err-clause-call g c =
    refused (SourceFails g.F.R.Source.remaining g.F.R.Source.failures) (g.F.Files.bytes c.args.files.now)
    (record { old = g.F.Files.failures c.args.files.now; new = g.F.Files.failures c.args.files.now })
    (asked_of (map (λ w. w.now) c.args.all.now)) c.in-Err.fault c.usage.result c.in-Err.ensures c.usage.ensures

pub returns-in-Ok-Some-clause-call : goal.returns-in-Ok-Some-clause-call
returns-in-Ok-Some-clause-call g c =
    found (SourceFails g.F.R.Source.remaining g.F.R.Source.failures) (g.F.Files.bytes c.args.files.now)
    (record { old = g.F.Files.failures c.args.files.now; new = g.F.Files.failures c.with_file.new.files })
    (asked_of (map (λ w. w.now) c.args.all.now)) (asked_values c.in-Ok.asked)
    (Some (file_in c.in-Ok-Some.file)) c.with_file.result c.in-Ok.ensures
    (rw c.in-Ok-Some.field-0-is at c.in-Ok-Some.ensures) c.with_file.ensures.call

pub returns-in-Ok-None-clause-call : goal.returns-in-Ok-None-clause-call
returns-in-Ok-None-clause-call g c =
    found (SourceFails g.F.R.Source.remaining g.F.R.Source.failures) (g.F.Files.bytes c.args.files.now)
    (record { old = g.F.Files.failures c.args.files.now; new = g.F.Files.failures c.args.files.now })
    (asked_of (map (λ w. w.now) c.args.all.now)) (asked_values c.in-Ok.asked) None
    (Ok c.without_job.result) c.in-Ok.ensures (rw c.in-Ok-None.field-0-is at c.in-Ok-None.ensures)
    c.without_job.ensures

pub returns-clause-call : goal.returns-clause-call
returns-clause-call g c =
    memory (SourceFails g.F.R.Source.remaining g.F.R.Source.failures) (g.F.Files.bytes c.args.files.now)
    (record { old = g.F.Files.failures c.args.files.now; new = g.F.Files.failures c.args.files.now })
    (asked_of (map (λ w. w.now) c.args.all.now))

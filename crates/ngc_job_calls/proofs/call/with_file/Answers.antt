use Rattle.std.proofs.Common.{None, map}
use Rattle.ngc_inputs.specs.Unread.{SourceFails}
use Rattle.ngc_job_words.specs.Folders.{file_in}
use Rattle.ngc_job_calls.proofs.Outcomes.{unread, with_text}
use Rattle.ngc_job_calls.proofs.call.with_file.Goals as goal

pub returns-in-Ok-Some-clause-call : goal.returns-in-Ok-Some-clause-call
returns-in-Ok-Some-clause-call g c =
    with_text (SourceFails g.F.R.Source.remaining g.F.R.Source.failures) (g.F.Files.bytes c.args.files.now)
    (record { old = g.F.Files.failures c.args.files.now; new = g.F.Files.failures c.bytes_of.new.files })
    (file_in c.args.file.now) c.in-Ok-Some.bytes.items (map (λ w. w.now) c.args.words.items)
    c.with_words.result (rw c.in-Ok-Some.field-0-is at c.in-Ok-Some.ensures.text)
    (rw (c.as_str.ensures.value, c.as_slice.ensures.value) at c.with_words.ensures)

pub returns-in-Ok-None-clause-call : goal.returns-in-Ok-None-clause-call
returns-in-Ok-None-clause-call g c =
    (None, rw c.in-Ok-None.field-0-is at c.in-Ok-None.ensures.text, c.without_job.ensures)

pub returns-clause-call : goal.returns-clause-call
returns-clause-call g c =
    unread (SourceFails g.F.R.Source.remaining g.F.R.Source.failures) (g.F.Files.bytes c.args.files.now)
    (record { old = g.F.Files.failures c.args.files.now; new = g.F.Files.failures c.bytes_of.new.files })
    (file_in c.args.file.now) (map (λ w. w.now) c.args.words.items) c.in-Err.fault c.in-Err.ensures.text

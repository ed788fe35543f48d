use Rattle.std.proofs.Common.{◌≡◌, Err, ap, inl, refl}
use Rattle.ngc_text.specs.declared.input_fault.InputFault.TheVariants.{Device, TooLong}
use Rattle.ngc_job_words.specs.Folders.{file_in}
use Rattle.ngc_job_calls.proofs.Outcomes.{stopped}
use Rattle.ngc_job_calls.proofs.call.bytes_of.Goals as goal

pub returns-in-Err-clause-text : goal.returns-in-Err-clause-text
returns-in-Err-clause-text g c = inl (c.in-Err.ensures.counts, c.if-file.true)

pub returns-in-Err-clause-keeps : goal.returns-in-Err-clause-keeps
returns-in-Err-clause-keeps g c = c.source.ensures.keeps refl

pub returns-in-Err-2-clause-text : goal.returns-in-Err-2-clause-text
returns-in-Err-2-clause-text g c = (c.in-Err-2.ensures.counts, c.if-file.false)

pub returns-in-Err-2-clause-keeps : goal.returns-in-Err-2-clause-keeps
returns-in-Err-2-clause-keeps g c = c.source.ensures.keeps refl

pub returns-in-Ok-read_whole-clause-text : goal.returns-in-Ok-read_whole-clause-text
returns-in-Ok-read_whole-clause-text g c =
    let gave = rw c.as_str.ensures.value at c.in-Ok.ensures.bytes in
    (c.in-Ok.ensures.counts, rw gave at c.in-Ok-read_whole.ensures.whole)

pub returns-in-Ok-read_whole-clause-keeps : goal.returns-in-Ok-read_whole-clause-keeps
returns-in-Ok-read_whole-clause-keeps g c = c.source.ensures.keeps refl

pub returns-clause-text : goal.returns-clause-text
returns-clause-text g c =
    let gave = rw c.as_str.ensures.value at c.in-Ok.ensures.bytes in
    rw c.read_fault.ensures
    (stopped g.F.R.Source.remaining g.F.R.Source.failures (g.F.Files.bytes c.args.files.now)
    (record { old = g.F.Files.failures c.args.files.now; new = g.F.Files.failures c.source.new.self })
    (file_in c.args.file.now) c.in-Ok.source c.read_whole.new.source c.in-Err-read_whole.fault
    c.in-Ok.ensures.counts gave
    (λ (e : c.in-Err-read_whole.fault ≡ Device). rw e at c.in-Err-read_whole.ensures.device)
    (λ (e : c.in-Err-read_whole.fault ≡ TooLong). c.in-Err-read_whole.ensures.long (ap (λ f. Err f) e)))

pub returns-clause-keeps : goal.returns-clause-keeps
returns-clause-keeps g c = c.source.ensures.keeps refl

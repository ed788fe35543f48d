use Rattle.std.proofs.Common.{[], ◌∷◌, ◌++◌, List, ℕ, Option, None, Some, Ok, Err, refl, subst, sym, inl, inr, ap, ◌∙◌}
use Rattle.ngc_report.proofs.Converted.{turned}
use Rattle.ngc_inputs.proofs.JobLaws.{if_known, keeps_same}
use Rattle.ngc_inputs.proofs.SetupLaws.{of_file}
use Rattle.ngc_inputs.proofs.UnreadLaws.{all_read, live_told, told_behind, unopened, unread_told}
use Rattle.ngc_inputs.specs.Unread.{OfCertificate, OfSource, SourceFails, certificate_unread}
use Rattle.ngc_inputs.specs.declared.fault.AnswerFault.{AnswerFault}
use Rattle.ngc_inputs.specs.declared.fault.AnswerFault.TheVariants as answers
use Rattle.ngc_simulator.specs.Answers.{DialectLiveResult, certificate_input, dialect_inputs, live_inputs_in, live_request}
use Rattle.ngc_simulator.specs.DialectRuns.{JudgesJob, LivesJob}
use Rattle.ngc_simulator.proofs.DialectLaws.{sent_read}
use Rattle.ngc_simulator.proofs.DialectRunLaws.{done_live, failed_live, job_from_input, judged_read, memory_live, refused_live}
use Rattle.ngc_simulator.proofs.dialect_runs.live_dialect.Goals as goal

pub returns-in_err-made-clause-comes : goal.returns-in_err-made-clause-comes
returns-in_err-made-clause-comes g c =
    let bytes : Option (List ℕ) → Option (List ℕ) = g.F.Files.bytes c.args.files.now in
    let old : Option (List ℕ) = g.W.Sink.written c.args.output.now in
    turned _ c.in_err-made.field-0.0 (DialectLiveResult c.args.control.now bytes c.args.options.now c.args.form old old)
    c.from_residual-in_err-made.ensures.1
    (subst (λ (e : AnswerFault). DialectLiveResult c.args.control.now bytes c.args.options.now c.args.form old old (Err e))
    (sym c.in_err-made.ensures.fault)
    (inr (memory_live _ bytes c.in_ok-sent.sent (bytes (Some c.args.options.now.certificate.now)) c.args.options.now.delete
    (live_request c.args.options.now c.args.form) (bytes None) old c.in_ok-sent.ensures.sent)))

pub returns-in-Err-clause-comes : goal.returns-in-Err-clause-comes
returns-in-Err-clause-comes g c =
    let bytes : Option (List ℕ) → Option (List ℕ) = g.F.Files.bytes c.args.files.now in
    refused_live _ bytes c.in_ok-sent.sent (bytes (Some c.args.options.now.certificate.now)) c.args.options.now.delete
    (live_request c.args.options.now c.args.form) (bytes None) (g.W.Sink.written c.args.output.now) c.in-Err.notes c.in_ok-sent.ensures.sent
    (rw c.in-Err.is at c.in_ok-made.ensures.job)

pub returns-in-Err-judge_job-clause-comes : goal.returns-in-Err-judge_job-clause-comes
returns-in-Err-judge_job-clause-comes g c =
    let bytes : Option (List ℕ) → Option (List ℕ) = g.F.Files.bytes c.args.files.now in
    let old : Option (List ℕ) = g.W.Sink.written c.args.output.now in
    let known : Option (List ℕ) = bytes (Some c.args.options.now.certificate.now) in
    let fault = c.in-Err-judge_job.fault in
    inr (failed_live _ bytes c.in_ok-sent.sent known c.args.options.now.delete (live_request c.args.options.now c.args.form) (bytes None) old old
    c.in-Ok.job (answers.Certificate fault) c.in_ok-sent.ensures.sent (rw c.in-Ok.is at c.in_ok-made.ensures.job)
    (if_known known (λ text. JudgesJob c.in-Ok.job text (Err fault))
    (λ text. (rest : Option (List ℕ)) × LivesJob (live_request c.args.options.now c.args.form) c.in-Ok.job text c.args.options.now.delete (bytes None)
    rest old old (Err (answers.Certificate fault)))
    (λ text is. (None, (is, keeps_same old)))
    (of_file known _ (λ text. JudgesJob c.in-Ok.job text (Err fault)) (c.read_sent.ensures.named c.args.options.now.certificate.now)
    c.in-Err-judge_job.ensures.judges)))

pub returns-in-Err-judge_job-clause-unread : goal.returns-in-Err-judge_job-clause-unread
returns-in-Err-judge_job-clause-unread g c =
    let bytes : Option (List ℕ) → Option (List ℕ) = g.F.Files.bytes c.args.files.now in
    told_behind (SourceFails g.F.R.Source.remaining g.F.R.Source.failures) bytes (g.F.Files.bytes c.read_sent.new.files)
    (dialect_inputs (Some c.args.options.now.machine.now) (Some c.args.options.now.tools.now) (Some c.args.options.now.program.now))
    OfCertificate (Some c.args.options.now.certificate.now) (record { kind = OfSource; name = None } ∷ []) _ _ _
    (certificate_unread c.in-Err-judge_job.fault)
    (sent_read _ bytes c.in_ok-sent.sent c.in_ok-sent.ensures.sent) (c.read_sent.ensures.named c.args.options.now.certificate.now)
    c.in_ok-sent.ensures.unread c.in-Err-judge_job.ensures.unread

pub returns-in_err-events-clause-comes : goal.returns-in_err-events-clause-comes
returns-in_err-events-clause-comes g c =
    turned _ (answers.Input c.in_err-events.field-0.0)
    (DialectLiveResult c.args.control.now (g.F.Files.bytes c.args.files.now) c.args.options.now c.args.form (g.W.Sink.written c.args.output.now)
    (g.W.Sink.written c.args.output.now))
    c.from_residual-in_err-events.ensures.1 (inl (tt, keeps_same _))

pub returns-in_err-events-clause-unread : goal.returns-in_err-events-clause-unread
returns-in_err-events-clause-unread g c =
    let bytes : Option (List ℕ) → Option (List ℕ) = g.F.Files.bytes c.args.files.now in
    unread_told (SourceFails g.F.R.Source.remaining g.F.R.Source.failures) bytes (live_inputs_in (Some c.args.control.now) c.args.options.now) _ _ _
    (answers.Input c.in_err-events.field-0.0) c.from_residual-in_err-events.ensures.1
    (unopened (SourceFails g.F.R.Source.remaining g.F.R.Source.failures) bytes
    (dialect_inputs (Some c.args.options.now.machine.now) (Some c.args.options.now.tools.now) (Some c.args.options.now.program.now)
    ++ certificate_input c.args.options.now.certificate.now ∷ []) OfSource None [] _ _ _
    c.in_err-events.field-0.0 c.in_err-events.ensures.fault
    (all_read bytes
    (dialect_inputs (Some c.args.options.now.machine.now) (Some c.args.options.now.tools.now) (Some c.args.options.now.program.now))
    (certificate_input c.args.options.now.certificate.now ∷ [])
    (sent_read _ bytes c.in_ok-sent.sent c.in_ok-sent.ensures.sent) (
      judged_read c.in-Ok.job c.in-Ok-judge_job.verdict (bytes (Some c.args.options.now.certificate.now))
          (g.F.Files.bytes c.read_sent.new.files (Some c.args.options.now.certificate.now)) (c.read_sent.ensures.named c.args.options.now.certificate.now)
          c.in-Ok-judge_job.ensures.judges,
      tt,
    ))
    (c.in-Ok-judge_job.ensures.unread ∙ c.in_ok-sent.ensures.unread) c.in_err-events.ensures.counts)

pub returns-in_err-run_live-clause-comes : goal.returns-in_err-run_live-clause-comes
returns-in_err-run_live-clause-comes g c =
    let bytes : Option (List ℕ) → Option (List ℕ) = g.F.Files.bytes c.args.files.now in
    let old : Option (List ℕ) = g.W.Sink.written c.args.output.now in
    let new : Option (List ℕ) = g.W.Sink.written c.run_live.new.output in
    let known : Option (List ℕ) = bytes (Some c.args.options.now.certificate.now) in
    let fault : AnswerFault = c.in_err-run_live.field-0.0 in
    let verdict = c.in-Ok-judge_job.verdict in
    turned _ fault (DialectLiveResult c.args.control.now bytes c.args.options.now c.args.form old new) c.from_residual-in_err-run_live.ensures.1
    (inr (failed_live _ bytes c.in_ok-sent.sent known c.args.options.now.delete (live_request c.args.options.now c.args.form) (bytes None) old new
    c.in-Ok.job fault c.in_ok-sent.ensures.sent (rw c.in-Ok.is at c.in_ok-made.ensures.job)
    (if_known known (λ text. JudgesJob c.in-Ok.job text (Ok verdict))
    (λ text. (rest : Option (List ℕ)) × LivesJob (live_request c.args.options.now c.args.form) c.in-Ok.job text c.args.options.now.delete (bytes None)
    rest old new (Err fault))
    (λ text is.
    job_from_input (live_request c.args.options.now c.args.form) c.in-Ok.job text c.args.options.now.delete _ (bytes None) _ old new (Err fault)
    (c.in_ok-events.ensures.bytes ∙ c.judge_job.ensures.keeps None ∙ c.read_sent.ensures.keeps refl None)
    (c.in_err-run_live.ensures.job c.in-Ok.job text is))
    (of_file known _ (λ text. JudgesJob c.in-Ok.job text (Ok verdict)) (c.read_sent.ensures.named c.args.options.now.certificate.now)
    c.in-Ok-judge_job.ensures.judges))))

pub returns-in_err-run_live-clause-unread : goal.returns-in_err-run_live-clause-unread
returns-in_err-run_live-clause-unread g c =
    let bytes : Option (List ℕ) → Option (List ℕ) = g.F.Files.bytes c.args.files.now in
    unread_told (SourceFails g.F.R.Source.remaining g.F.R.Source.failures) bytes (live_inputs_in (Some c.args.control.now) c.args.options.now) _ _ _
    c.in_err-run_live.field-0.0 c.from_residual-in_err-run_live.ensures.1
    (live_told (SourceFails g.F.R.Source.remaining g.F.R.Source.failures) bytes
    (dialect_inputs (Some c.args.options.now.machine.now) (Some c.args.options.now.tools.now) (Some c.args.options.now.program.now)
    ++ certificate_input c.args.options.now.certificate.now ∷ []) _ _ c.in_err-run_live.field-0.0
    c.in_err-run_live.ensures.faults
    (all_read bytes
    (dialect_inputs (Some c.args.options.now.machine.now) (Some c.args.options.now.tools.now) (Some c.args.options.now.program.now))
    (certificate_input c.args.options.now.certificate.now ∷ [])
    (sent_read _ bytes c.in_ok-sent.sent c.in_ok-sent.ensures.sent) (
      judged_read c.in-Ok.job c.in-Ok-judge_job.verdict (bytes (Some c.args.options.now.certificate.now))
          (g.F.Files.bytes c.read_sent.new.files (Some c.args.options.now.certificate.now)) (c.read_sent.ensures.named c.args.options.now.certificate.now)
          c.in-Ok-judge_job.ensures.judges,
      tt,
    ))
    (c.in_ok-events.ensures.counts ∙ c.in-Ok-judge_job.ensures.unread ∙ c.in_ok-sent.ensures.unread)
    (λ is. record {
      opened = c.in_ok-events.events;
      left = c.run_live.new.source;
      gave = c.in_ok-events.ensures.bytes ∙ c.judge_job.ensures.keeps None ∙ c.read_sent.ensures.keeps refl None;
      fails = c.in_err-run_live.ensures.source (ap Err is);
    }))

pub returns-clause-comes : goal.returns-clause-comes
returns-clause-comes g c =
    let bytes : Option (List ℕ) → Option (List ℕ) = g.F.Files.bytes c.args.files.now in
    let old : Option (List ℕ) = g.W.Sink.written c.args.output.now in
    let new : Option (List ℕ) = g.W.Sink.written c.run_live.new.output in
    let known : Option (List ℕ) = bytes (Some c.args.options.now.certificate.now) in
    let verdict = c.in-Ok-judge_job.verdict in
    done_live _ bytes c.in_ok-sent.sent known c.args.options.now.delete (live_request c.args.options.now c.args.form) (bytes None) old new
    c.in-Ok.job c.in_ok-sent.ensures.sent (rw c.in-Ok.is at c.in_ok-made.ensures.job)
    (if_known known (λ text. JudgesJob c.in-Ok.job text (Ok verdict))
    (λ text. (rest : Option (List ℕ)) × LivesJob (live_request c.args.options.now c.args.form) c.in-Ok.job text c.args.options.now.delete (bytes None)
    rest old new (Ok tt))
    (λ text is.
    job_from_input (live_request c.args.options.now c.args.form) c.in-Ok.job text c.args.options.now.delete _ (bytes None) _ old new (Ok tt)
    (c.in_ok-events.ensures.bytes ∙ c.judge_job.ensures.keeps None ∙ c.read_sent.ensures.keeps refl None)
    (c.in_ok-run_live.ensures.job c.in-Ok.job text is))
    (of_file known _ (λ text. JudgesJob c.in-Ok.job text (Ok verdict)) (c.read_sent.ensures.named c.args.options.now.certificate.now)
    c.in-Ok-judge_job.ensures.judges))

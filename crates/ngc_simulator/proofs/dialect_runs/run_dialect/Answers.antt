use Rattle.std.proofs.Common.{[], ◌∷◌, ◌++◌, List, ℕ, Option, Some, Ok, Err, refl, subst, sym, inl, inr, ◌∙◌}
use Rattle.std.specs.Prelude.{option_map}
use Rattle.ngc_report.proofs.Converted.{turned}
use Rattle.ngc_run_through.specs.declared.report.Report.{Report}
use Rattle.ngc_inputs.proofs.JobLaws.{keeps_same}
use Rattle.ngc_inputs.proofs.UnreadLaws.{all_read, run_told, told_behind, unread_told}
use Rattle.ngc_inputs.specs.Unread.{OfCertificate, OfEvents, SourceFails, certificate_unread}
use Rattle.ngc_inputs.specs.declared.fault.AnswerFault.{AnswerFault}
use Rattle.ngc_inputs.specs.declared.fault.AnswerFault.TheVariants as answers
use Rattle.ngc_simulator.specs.Answers.{DialectRunResult, certificate_input, dialect_inputs, events_input, run_inputs_in}
use Rattle.ngc_simulator.specs.DialectRuns.{JudgesJob, RunsJob}
use Rattle.ngc_simulator.proofs.FileLaws.{all_known}
use Rattle.ngc_simulator.proofs.DialectLaws.{sent_read}
use Rattle.ngc_simulator.proofs.DialectRunLaws.{done_over, failed_over, judged_read, memory_over, of_both, over_events, refused_over}
use Rattle.ngc_simulator.proofs.dialect_runs.run_dialect.Goals as goal

pub returns-in_err-made-clause-comes : goal.returns-in_err-made-clause-comes
returns-in_err-made-clause-comes g c =
    let bytes : Option (List ℕ) → Option (List ℕ) = g.F.Files.bytes c.args.files.now in
    let old : Option (List ℕ) = g.W.Sink.written c.args.output.now in
    turned _ c.in_err-made.field-0.0 (DialectRunResult c.args.control.now bytes c.args.options.now c.args.writing old old)
    c.from_residual-in_err-made.ensures.1
    (subst (λ (e : AnswerFault). DialectRunResult c.args.control.now bytes c.args.options.now c.args.writing old old (Err e))
    (sym c.in_err-made.ensures.fault)
    (inr (memory_over _ bytes c.in_ok-sent.sent (bytes (Some c.args.options.now.certificate.now)) c.args.options.now.delete c.args.writing
    (bytes (Some c.args.options.now.events.now)) old c.in_ok-sent.ensures.sent)))

pub returns-in-Err-clause-comes : goal.returns-in-Err-clause-comes
returns-in-Err-clause-comes g c =
    let bytes : Option (List ℕ) → Option (List ℕ) = g.F.Files.bytes c.args.files.now in
    refused_over _ bytes c.in_ok-sent.sent (bytes (Some c.args.options.now.certificate.now)) c.args.options.now.delete c.args.writing
    (bytes (Some c.args.options.now.events.now)) (g.W.Sink.written c.args.output.now) c.in-Err.notes c.in_ok-sent.ensures.sent
    (rw c.in-Err.is at c.in_ok-made.ensures.job)

pub returns-in-Err-judge_job-clause-comes : goal.returns-in-Err-judge_job-clause-comes
returns-in-Err-judge_job-clause-comes g c =
    let bytes : Option (List ℕ) → Option (List ℕ) = g.F.Files.bytes c.args.files.now in
    let old : Option (List ℕ) = g.W.Sink.written c.args.output.now in
    let fault = c.in-Err-judge_job.fault in
    inr (failed_over _ bytes c.in_ok-sent.sent (bytes (Some c.args.options.now.certificate.now)) c.args.options.now.delete c.args.writing
    (bytes (Some c.args.options.now.events.now)) old old c.in-Ok.job (answers.Certificate fault) c.in_ok-sent.ensures.sent
    (rw c.in-Ok.is at c.in_ok-made.ensures.job)
    (of_both (bytes (Some c.args.options.now.certificate.now)) _ (bytes (Some c.args.options.now.events.now)) _
    (λ text. JudgesJob c.in-Ok.job text (Err fault)) (λ es. Unit {0})
    (λ text es. RunsJob c.args.writing c.in-Ok.job text es c.args.options.now.delete old old (Err (answers.Certificate fault)))
    (c.read_sent.ensures.named c.args.options.now.certificate.now) refl (λ text es is u. (is, keeps_same old))
    c.in-Err-judge_job.ensures.judges (all_known _ _ (λ es. tt))))

pub returns-in-Err-judge_job-clause-unread : goal.returns-in-Err-judge_job-clause-unread
returns-in-Err-judge_job-clause-unread g c =
    let bytes : Option (List ℕ) → Option (List ℕ) = g.F.Files.bytes c.args.files.now in
    told_behind (SourceFails g.F.R.Source.remaining g.F.R.Source.failures) bytes (g.F.Files.bytes c.read_sent.new.files)
    (dialect_inputs (Some c.args.options.now.machine.now) (Some c.args.options.now.tools.now) (option_map (λ n. n.now) c.args.options.now.program))
    OfCertificate (Some c.args.options.now.certificate.now) (events_input c.args.options.now.events.now ∷ []) _ _ _
    (certificate_unread c.in-Err-judge_job.fault)
    (sent_read _ bytes c.in_ok-sent.sent c.in_ok-sent.ensures.sent) (c.read_sent.ensures.named c.args.options.now.certificate.now)
    c.in_ok-sent.ensures.unread c.in-Err-judge_job.ensures.unread

pub returns-in_err-events-clause-comes : goal.returns-in_err-events-clause-comes
returns-in_err-events-clause-comes g c =
    turned _ (answers.Input c.in_err-events.field-0.0)
    (DialectRunResult c.args.control.now (g.F.Files.bytes c.args.files.now) c.args.options.now c.args.writing (g.W.Sink.written c.args.output.now)
    (g.W.Sink.written c.args.output.now))
    c.from_residual-in_err-events.ensures.1 (inl (tt, keeps_same _))

pub returns-in_err-events-clause-unread : goal.returns-in_err-events-clause-unread
returns-in_err-events-clause-unread g c =
    let bytes : Option (List ℕ) → Option (List ℕ) = g.F.Files.bytes c.args.files.now in
    unread_told (SourceFails g.F.R.Source.remaining g.F.R.Source.failures) bytes (run_inputs_in (Some c.args.control.now) c.args.options.now) _ _ _
    (answers.Input c.in_err-events.field-0.0) c.from_residual-in_err-events.ensures.1
    (told_behind (SourceFails g.F.R.Source.remaining g.F.R.Source.failures) bytes (g.F.Files.bytes c.judge_job.new.files)
    (dialect_inputs (Some c.args.options.now.machine.now) (Some c.args.options.now.tools.now) (option_map (λ n. n.now) c.args.options.now.program)
    ++ certificate_input c.args.options.now.certificate.now ∷ []) OfEvents (Some c.args.options.now.events.now) [] _ _ _ (Some c.in_err-events.field-0.0)
    (all_read bytes
    (dialect_inputs (Some c.args.options.now.machine.now) (Some c.args.options.now.tools.now) (option_map (λ n. n.now) c.args.options.now.program))
    (certificate_input c.args.options.now.certificate.now ∷ [])
    (sent_read _ bytes c.in_ok-sent.sent c.in_ok-sent.ensures.sent) (
      judged_read c.in-Ok.job c.in-Ok-judge_job.verdict (bytes (Some c.args.options.now.certificate.now))
          (g.F.Files.bytes c.read_sent.new.files (Some c.args.options.now.certificate.now)) (c.read_sent.ensures.named c.args.options.now.certificate.now)
          c.in-Ok-judge_job.ensures.judges,
      tt,
    ))
    (c.judge_job.ensures.keeps (Some c.args.options.now.events.now) ∙ c.read_sent.ensures.named c.args.options.now.events.now)
    (c.in-Ok-judge_job.ensures.unread ∙ c.in_ok-sent.ensures.unread) (inl c.in_err-events.ensures.unread))

pub returns-in_err-run_program-clause-comes : goal.returns-in_err-run_program-clause-comes
returns-in_err-run_program-clause-comes g c =
    let bytes : Option (List ℕ) → Option (List ℕ) = g.F.Files.bytes c.args.files.now in
    let old : Option (List ℕ) = g.W.Sink.written c.args.output.now in
    let new : Option (List ℕ) = g.W.Sink.written c.run_program.new.output in
    let fault : AnswerFault = c.in_err-run_program.field-0.0 in
    turned _ fault (DialectRunResult c.args.control.now bytes c.args.options.now c.args.writing old new) c.from_residual-in_err-run_program.ensures.1
    (inr (failed_over _ bytes c.in_ok-sent.sent (bytes (Some c.args.options.now.certificate.now)) c.args.options.now.delete c.args.writing
    (bytes (Some c.args.options.now.events.now)) old new c.in-Ok.job fault c.in_ok-sent.ensures.sent (rw c.in-Ok.is at c.in_ok-made.ensures.job)
    (of_both (bytes (Some c.args.options.now.certificate.now)) _ (bytes (Some c.args.options.now.events.now)) _
    (λ text. JudgesJob c.in-Ok.job text (Ok c.in-Ok-judge_job.verdict)) _
    (λ text es. RunsJob c.args.writing c.in-Ok.job text es c.args.options.now.delete old new (Err fault))
    (c.read_sent.ensures.named c.args.options.now.certificate.now)
    (c.judge_job.ensures.keeps (Some c.args.options.now.events.now) ∙ c.read_sent.ensures.named c.args.options.now.events.now)
    (λ text es is read.
    over_events c.args.writing c.in-Ok.job text es c.as_slice.result.now c.in_ok-events.events.items c.args.options.now.delete old new (Err fault)
    c.as_slice.ensures.value read (c.in_err-run_program.ensures.job c.in-Ok.job text is))
    c.in-Ok-judge_job.ensures.judges c.in_ok-events.ensures.value)))

pub returns-in_err-run_program-clause-unread : goal.returns-in_err-run_program-clause-unread
returns-in_err-run_program-clause-unread g c =
    let bytes : Option (List ℕ) → Option (List ℕ) = g.F.Files.bytes c.args.files.now in
    unread_told (SourceFails g.F.R.Source.remaining g.F.R.Source.failures) bytes (run_inputs_in (Some c.args.control.now) c.args.options.now) _ _ _
    c.in_err-run_program.field-0.0 c.from_residual-in_err-run_program.ensures.1
    (run_told (SourceFails g.F.R.Source.remaining g.F.R.Source.failures) bytes (run_inputs_in (Some c.args.control.now) c.args.options.now) _ _
    c.in_err-run_program.field-0.0 c.in_err-run_program.ensures.faults
    (c.in_ok-events.ensures.counts ∙ c.in-Ok-judge_job.ensures.unread ∙ c.in_ok-sent.ensures.unread))

pub returns-clause-comes : goal.returns-clause-comes
returns-clause-comes g c =
    let bytes : Option (List ℕ) → Option (List ℕ) = g.F.Files.bytes c.args.files.now in
    let old : Option (List ℕ) = g.W.Sink.written c.args.output.now in
    let new : Option (List ℕ) = g.W.Sink.written c.run_program.new.output in
    let report : Report = c.in_ok-run_program.field-0 in
    done_over _ bytes c.in_ok-sent.sent (bytes (Some c.args.options.now.certificate.now)) c.args.options.now.delete c.args.writing
    (bytes (Some c.args.options.now.events.now)) old new c.in-Ok.job report c.in_ok-sent.ensures.sent (rw c.in-Ok.is at c.in_ok-made.ensures.job)
    (of_both (bytes (Some c.args.options.now.certificate.now)) _ (bytes (Some c.args.options.now.events.now)) _
    (λ text. JudgesJob c.in-Ok.job text (Ok c.in-Ok-judge_job.verdict)) _
    (λ text es. RunsJob c.args.writing c.in-Ok.job text es c.args.options.now.delete old new (Ok report))
    (c.read_sent.ensures.named c.args.options.now.certificate.now)
    (c.judge_job.ensures.keeps (Some c.args.options.now.events.now) ∙ c.read_sent.ensures.named c.args.options.now.events.now)
    (λ text es is read.
    over_events c.args.writing c.in-Ok.job text es c.as_slice.result.now c.in_ok-events.events.items c.args.options.now.delete old new (Ok report)
    c.as_slice.ensures.value read (c.in_ok-run_program.ensures.job c.in-Ok.job text is))
    c.in-Ok-judge_job.ensures.judges c.in_ok-events.ensures.value)

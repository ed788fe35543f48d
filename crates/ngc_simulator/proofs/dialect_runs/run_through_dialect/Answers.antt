use Rattle.std.proofs.Common.{[], List, ℕ, Option, Some, Ok, Err, refl, subst, sym, inr, ◌∙◌}
use Rattle.std.specs.Prelude.{option_map}
use Rattle.ngc_report.proofs.Converted.{turned}
use Rattle.ngc_inputs.proofs.JobLaws.{if_known, keeps_same}
use Rattle.ngc_inputs.proofs.SetupLaws.{of_file}
use Rattle.ngc_inputs.proofs.UnreadLaws.{run_told, told_behind, unread_told}
use Rattle.ngc_inputs.specs.Unread.{OfCertificate, SourceFails, certificate_unread}
use Rattle.ngc_inputs.specs.declared.fault.AnswerFault.{AnswerFault}
use Rattle.ngc_inputs.specs.declared.fault.AnswerFault.TheVariants as answers
use Rattle.ngc_simulator.specs.Answers.{DialectRunThroughResult, dialect_inputs, run_through_inputs_in}
use Rattle.ngc_simulator.specs.DialectRuns.{JudgesJob, RunsJobThrough}
use Rattle.ngc_simulator.proofs.DialectLaws.{sent_read}
use Rattle.ngc_simulator.proofs.DialectRunLaws.{done_through, failed_through, memory_through, refused_through}
use Rattle.ngc_simulator.proofs.dialect_runs.run_through_dialect.Goals as goal

pub returns-in_err-made-clause-comes : goal.returns-in_err-made-clause-comes
returns-in_err-made-clause-comes g c =
    let bytes : Option (List ℕ) → Option (List ℕ) = g.F.Files.bytes c.args.files.now in
    let old : Option (List ℕ) = g.W.Sink.written c.args.output.now in
    turned _ c.in_err-made.field-0.0 (DialectRunThroughResult c.args.control.now bytes c.args.options.now c.args.writing old old)
    c.from_residual-in_err-made.ensures.1
    (subst (λ (e : AnswerFault). DialectRunThroughResult c.args.control.now bytes c.args.options.now c.args.writing old old (Err e))
    (sym c.in_err-made.ensures.fault)
    (inr (memory_through _ bytes c.in_ok-sent.sent (bytes (Some c.args.options.now.certificate.now)) c.args.options.now.delete c.args.writing old
    c.in_ok-sent.ensures.sent)))

pub returns-in-Err-clause-comes : goal.returns-in-Err-clause-comes
returns-in-Err-clause-comes g c =
    let bytes : Option (List ℕ) → Option (List ℕ) = g.F.Files.bytes c.args.files.now in
    refused_through _ bytes c.in_ok-sent.sent (bytes (Some c.args.options.now.certificate.now)) c.args.options.now.delete c.args.writing
    (g.W.Sink.written c.args.output.now) c.in-Err.notes c.in_ok-sent.ensures.sent (rw c.in-Err.is at c.in_ok-made.ensures.job)

pub returns-in-Err-judge_job-clause-comes : goal.returns-in-Err-judge_job-clause-comes
returns-in-Err-judge_job-clause-comes g c =
    let bytes : Option (List ℕ) → Option (List ℕ) = g.F.Files.bytes c.args.files.now in
    let old : Option (List ℕ) = g.W.Sink.written c.args.output.now in
    let known : Option (List ℕ) = bytes (Some c.args.options.now.certificate.now) in
    let fault = c.in-Err-judge_job.fault in
    inr (failed_through _ bytes c.in_ok-sent.sent known c.args.options.now.delete c.args.writing old old c.in-Ok.job (answers.Certificate fault)
    c.in_ok-sent.ensures.sent (rw c.in-Ok.is at c.in_ok-made.ensures.job)
    (if_known known (λ text. JudgesJob c.in-Ok.job text (Err fault))
    (λ text. RunsJobThrough c.args.writing c.in-Ok.job text c.args.options.now.delete old old (Err (answers.Certificate fault)))
    (λ text is. (is, keeps_same old))
    (of_file known _ (λ text. JudgesJob c.in-Ok.job text (Err fault)) (c.read_sent.ensures.named c.args.options.now.certificate.now)
    c.in-Err-judge_job.ensures.judges)))

pub returns-in-Err-judge_job-clause-unread : goal.returns-in-Err-judge_job-clause-unread
returns-in-Err-judge_job-clause-unread g c =
    let bytes : Option (List ℕ) → Option (List ℕ) = g.F.Files.bytes c.args.files.now in
    told_behind (SourceFails g.F.R.Source.remaining g.F.R.Source.failures) bytes (g.F.Files.bytes c.read_sent.new.files)
    (dialect_inputs (Some c.args.options.now.machine.now) (Some c.args.options.now.tools.now) (option_map (λ n. n.now) c.args.options.now.program))
    OfCertificate (Some c.args.options.now.certificate.now) [] _ _ _ (certificate_unread c.in-Err-judge_job.fault)
    (sent_read _ bytes c.in_ok-sent.sent c.in_ok-sent.ensures.sent) (c.read_sent.ensures.named c.args.options.now.certificate.now)
    c.in_ok-sent.ensures.unread c.in-Err-judge_job.ensures.unread

pub returns-in_err-report-clause-comes : goal.returns-in_err-report-clause-comes
returns-in_err-report-clause-comes g c =
    let bytes : Option (List ℕ) → Option (List ℕ) = g.F.Files.bytes c.args.files.now in
    let old : Option (List ℕ) = g.W.Sink.written c.args.output.now in
    let new : Option (List ℕ) = g.W.Sink.written c.run_program_through.new.output in
    let known : Option (List ℕ) = bytes (Some c.args.options.now.certificate.now) in
    let fault : AnswerFault = c.in_err-report.field-0.0 in
    let verdict = c.in-Ok-judge_job.verdict in
    turned _ fault (DialectRunThroughResult c.args.control.now bytes c.args.options.now c.args.writing old new) c.from_residual-in_err-report.ensures.1
    (inr (failed_through _ bytes c.in_ok-sent.sent known c.args.options.now.delete c.args.writing old new c.in-Ok.job fault c.in_ok-sent.ensures.sent
    (rw c.in-Ok.is at c.in_ok-made.ensures.job)
    (if_known known (λ text. JudgesJob c.in-Ok.job text (Ok verdict))
    (λ text. RunsJobThrough c.args.writing c.in-Ok.job text c.args.options.now.delete old new (Err fault))
    (λ text is. c.in_err-report.ensures.job c.in-Ok.job text is)
    (of_file known _ (λ text. JudgesJob c.in-Ok.job text (Ok verdict)) (c.read_sent.ensures.named c.args.options.now.certificate.now)
    c.in-Ok-judge_job.ensures.judges))))

pub returns-in_err-report-clause-unread : goal.returns-in_err-report-clause-unread
returns-in_err-report-clause-unread g c =
    let bytes : Option (List ℕ) → Option (List ℕ) = g.F.Files.bytes c.args.files.now in
    unread_told (SourceFails g.F.R.Source.remaining g.F.R.Source.failures) bytes (run_through_inputs_in (Some c.args.control.now) c.args.options.now) _ _ _
    c.in_err-report.field-0.0 c.from_residual-in_err-report.ensures.1
    (run_told (SourceFails g.F.R.Source.remaining g.F.R.Source.failures) bytes (run_through_inputs_in (Some c.args.control.now) c.args.options.now) _ _
    c.in_err-report.field-0.0 c.in_err-report.ensures.faults (c.in-Ok-judge_job.ensures.unread ∙ c.in_ok-sent.ensures.unread))

pub returns-clause-comes : goal.returns-clause-comes
returns-clause-comes g c =
    let bytes : Option (List ℕ) → Option (List ℕ) = g.F.Files.bytes c.args.files.now in
    let old : Option (List ℕ) = g.W.Sink.written c.args.output.now in
    let new : Option (List ℕ) = g.W.Sink.written c.run_program_through.new.output in
    let known : Option (List ℕ) = bytes (Some c.args.options.now.certificate.now) in
    let report = c.in_ok-report.report in
    let verdict = c.in-Ok-judge_job.verdict in
    done_through _ bytes c.in_ok-sent.sent known c.args.options.now.delete c.args.writing old new c.in-Ok.job report _ c.in_ok-sent.ensures.sent
    (rw c.in-Ok.is at c.in_ok-made.ensures.job)
    (if_known known (λ text. JudgesJob c.in-Ok.job text (Ok verdict))
    (λ text. RunsJobThrough c.args.writing c.in-Ok.job text c.args.options.now.delete old new (Ok report))
    (λ text is. c.in_ok-report.ensures.job c.in-Ok.job text is)
    (of_file known _ (λ text. JudgesJob c.in-Ok.job text (Ok verdict)) (c.read_sent.ensures.named c.args.options.now.certificate.now)
    c.in-Ok-judge_job.ensures.judges))
    (record { ticks = refl; ticks_per_second = refl })

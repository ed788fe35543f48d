use Rattle.std.proofs.Common.{ℕ, List, Option, Some, Result, Ok, Err, IfSome, ap, subst, sym, inl, inr, ◌∙◌}
use Rattle.std.specs.Prelude.{option_map}
use Rattle.ngc_canonical.specs.Interpreter.{setup_of}
use Rattle.ngc_job.specs.Job.{JobData}
use Rattle.ngc_report.proofs.Converted.{turned}
use Rattle.ngc_inputs.proofs.JobLaws.{keeps_same}
use Rattle.ngc_inputs.proofs.SetupLaws.{of_file}
use Rattle.ngc_inputs.proofs.UnreadLaws.{check_told, unread_told}
use Rattle.ngc_inputs.specs.Faults.{OfChecking}
use Rattle.ngc_inputs.specs.Unread.{SourceFails}
use Rattle.ngc_inputs.specs.declared.fault.AnswerFault.{AnswerFault}
use Rattle.ngc_inputs.specs.declared.fault.AnswerFault.TheVariants as answers
use Rattle.ngc_simulator.specs.Answers.{DialectCheckResult, check_inputs_in, dialect_inputs}
use Rattle.ngc_simulator.specs.Dialects.{ChecksDialect, ChecksJob}
use Rattle.ngc_simulator.specs.declared.done.Done.TheVariants.{Quietly}
use Rattle.ngc_simulator.proofs.DialectLaws.{job_done, job_failed, no_memory_check, on_dialect, refused_check, sent_read}
use Rattle.ngc_simulator.proofs.dialect_certificates.check_dialect.Goals as goal

pub returns-in_err-job-clause-comes : goal.returns-in_err-job-clause-comes
returns-in_err-job-clause-comes g c =
    let old : Option (List ℕ) = g.W.Sink.written c.args.output.now in
    turned _ c.in_err-job.field-0.0 (DialectCheckResult c.args.control.now (g.F.Files.bytes c.args.files.now) c.args.options.now old old)
    c.from_residual-in_err-job.ensures.1
    (subst (λ (e : AnswerFault). DialectCheckResult c.args.control.now (g.F.Files.bytes c.args.files.now) c.args.options.now old old (Err e))
    (sym c.in_err-job.ensures.fault)
    (inr (no_memory_check _ (g.F.Files.bytes c.args.files.now) c.in_ok-sent.sent (g.F.Files.bytes c.args.files.now (Some c.args.options.now.certificate.now)) old
    c.in_ok-sent.ensures.sent)))

pub returns-in-Err-clause-comes : goal.returns-in-Err-clause-comes
returns-in-Err-clause-comes g c =
    refused_check _ (g.F.Files.bytes c.args.files.now) c.in_ok-sent.sent (g.F.Files.bytes c.args.files.now (Some c.args.options.now.certificate.now))
    (g.W.Sink.written c.args.output.now) c.in-Err.notes c.in_ok-sent.ensures.sent (rw c.in-Err.is at c.in_ok-job.ensures.job)

pub returns-in_err-certificate-clause-comes : goal.returns-in_err-certificate-clause-comes
returns-in_err-certificate-clause-comes g c =
    turned _ (answers.Input c.in_err-certificate.field-0.0)
    (DialectCheckResult c.args.control.now (g.F.Files.bytes c.args.files.now) c.args.options.now (g.W.Sink.written c.args.output.now)
    (g.W.Sink.written c.args.output.now))
    c.from_residual-in_err-certificate.ensures.1 (inl (tt, keeps_same _))

pub returns-in_err-check_job-clause-comes : goal.returns-in_err-check_job-clause-comes
returns-in_err-check_job-clause-comes g c =
    let bytes : Option (List ℕ) → Option (List ℕ) = g.F.Files.bytes c.args.files.now in
    let old : Option (List ℕ) = g.W.Sink.written c.args.output.now in
    let new : Option (List ℕ) = g.W.Sink.written c.check_job.new.output in
    let known : Option (List ℕ) = bytes (Some c.args.options.now.certificate.now) in
    let fault : AnswerFault = c.in_err-check_job.field-0.0 in
    let sent = c.in_ok-sent.sent in
    turned _ fault (DialectCheckResult c.args.control.now bytes c.args.options.now old new) c.from_residual-in_err-check_job.ensures.1
    (inr (on_dialect _ bytes sent (λ d setup source. ChecksDialect d setup source known old new (Err fault)) c.in_ok-sent.ensures.sent
    (job_failed sent.dialect (setup_of sent.shop.machine sent.shop.tools) sent.text.items old new
    (λ (j : JobData) (o : Result (Unit {0}) AnswerFault). IfSome known (λ text. ChecksJob j text old new o)) c.in-Ok.job fault
    (rw c.in-Ok.is at c.in_ok-job.ensures.job)
    (of_file known _ (λ text. ChecksJob c.in-Ok.job text old new (Err fault))
    (c.in_ok-certificate.ensures.bytes ∙ c.read_sent.ensures.named c.args.options.now.certificate.now) c.in_err-check_job.ensures.checks)
    (λ is. subst OfChecking is c.in_err-check_job.ensures.faults))))

pub returns-in_err-check_job-clause-unread : goal.returns-in_err-check_job-clause-unread
returns-in_err-check_job-clause-unread g c =
    let bytes : Option (List ℕ) → Option (List ℕ) = g.F.Files.bytes c.args.files.now in
    unread_told (SourceFails g.F.R.Source.remaining g.F.R.Source.failures) bytes (check_inputs_in (Some c.args.control.now) c.args.options.now) _ _ _
    c.in_err-check_job.field-0.0 c.from_residual-in_err-check_job.ensures.1
    (check_told (SourceFails g.F.R.Source.remaining g.F.R.Source.failures) bytes
    (dialect_inputs (Some c.args.options.now.machine.now) (Some c.args.options.now.tools.now) (option_map (λ n. n.now) c.args.options.now.program))
    (Some c.args.options.now.certificate.now) _ _ c.in_err-check_job.field-0.0 c.in_err-check_job.ensures.faults
    (sent_read _ bytes c.in_ok-sent.sent c.in_ok-sent.ensures.sent) (c.in_ok-certificate.ensures.counts ∙ c.in_ok-sent.ensures.unread)
    (λ is. record {
      opened = c.in_ok-certificate.certificate;
      left = c.check_job.new.certificate;
      gave = c.in_ok-certificate.ensures.bytes ∙ c.read_sent.ensures.named c.args.options.now.certificate.now;
      fails = c.in_err-check_job.ensures.source (ap Err is);
    }))

pub returns-clause-comes : goal.returns-clause-comes
returns-clause-comes g c =
    let bytes : Option (List ℕ) → Option (List ℕ) = g.F.Files.bytes c.args.files.now in
    let old : Option (List ℕ) = g.W.Sink.written c.args.output.now in
    let new : Option (List ℕ) = g.W.Sink.written c.check_job.new.output in
    let known : Option (List ℕ) = bytes (Some c.args.options.now.certificate.now) in
    let sent = c.in_ok-sent.sent in
    on_dialect _ bytes sent (λ d setup source. ChecksDialect d setup source known old new (Ok Quietly)) c.in_ok-sent.ensures.sent
    (job_done sent.dialect (setup_of sent.shop.machine sent.shop.tools) sent.text.items old new
    (λ (j : JobData) (o : Result (Unit {0}) AnswerFault). IfSome known (λ text. ChecksJob j text old new o)) c.in-Ok.job
    (rw c.in-Ok.is at c.in_ok-job.ensures.job)
    (of_file known _ (λ text. ChecksJob c.in-Ok.job text old new (Ok tt))
    (c.in_ok-certificate.ensures.bytes ∙ c.read_sent.ensures.named c.args.options.now.certificate.now) c.in_ok-check_job.ensures.checks))

use Rattle.std.proofs.Common.{Ok, Err}
use Rattle.ngc_inputs.specs.Faults.{of_run}
use Rattle.ngc_simulator.specs.DialectRuns.{RunsJobThrough}
use Rattle.ngc_simulator.specs.Running.{RunsThrough}
use Rattle.ngc_inputs.specs.declared.fault.AnswerFault.TheVariants as answers
use Rattle.ngc_report.proofs.Converted.{turned}
use Rattle.ngc_simulator.proofs.DialectRunLaws.{job_through_failed, job_through_refused, job_went_through}
use Rattle.ngc_simulator.proofs.RunLaws.{through_failed, through_refused, went_through}
use Rattle.ngc_simulator.proofs.through.run_program_through.Goals as goal

pub returns-in_err-accepted-clause-runs : goal.returns-in_err-accepted-clause-runs
returns-in_err-accepted-clause-runs g c setup bytes text is =
    turned _ (answers.Check c.in_err-accepted.field-0.0)
    (λ r. RunsThrough c.args.writing setup bytes text c.args.block_delete (g.W.Sink.written c.args.output.now) (g.W.Sink.written c.args.output.now) r)
    c.from_residual.ensures.1
    (through_refused c.args.writing setup bytes text c.args.block_delete _ c.args.verdict c.in_err-accepted.field-0.0 is c.in_err-accepted.was)

pub returns-in_err-report-clause-runs : goal.returns-in_err-report-clause-runs
returns-in_err-report-clause-runs g c setup bytes text is =
    let fault = c.in_err-report.field-0.0 in
    turned _ (of_run fault)
    (λ r. RunsThrough c.args.writing setup bytes text c.args.block_delete (g.W.Sink.written c.args.output.now)
    (g.W.Sink.written c.record_through.new.output) r) c.from_residual-in_err-report.ensures.1
    (through_failed c.args.writing setup bytes text c.args.block_delete _ _ fault
    (went_through c.args.writing setup bytes text c.args.block_delete _ _ c.args.verdict c.in_ok-accepted.accepted (Err fault)
    is c.in_ok-accepted.was c.in_err-report.ensures.records))

pub returns-clause-runs : goal.returns-clause-runs
returns-clause-runs g c setup bytes text is =
    went_through c.args.writing setup bytes text c.args.block_delete _ _ c.args.verdict c.in_ok-accepted.accepted (Ok c.in_ok-report.report)
    is c.in_ok-accepted.was c.in_ok-report.ensures.records

pub returns-in_err-accepted-clause-job : goal.returns-in_err-accepted-clause-job
returns-in_err-accepted-clause-job g c j text is =
    turned _ (answers.Check c.in_err-accepted.field-0.0)
    (λ r. RunsJobThrough c.args.writing j text c.args.block_delete (g.W.Sink.written c.args.output.now) (g.W.Sink.written c.args.output.now) r)
    c.from_residual.ensures.1
    (job_through_refused c.args.writing j text c.args.block_delete _ c.args.verdict c.in_err-accepted.field-0.0 is c.in_err-accepted.was)

pub returns-in_err-report-clause-job : goal.returns-in_err-report-clause-job
returns-in_err-report-clause-job g c j text is =
    let fault = c.in_err-report.field-0.0 in
    turned _ (of_run fault)
    (λ r. RunsJobThrough c.args.writing j text c.args.block_delete (g.W.Sink.written c.args.output.now)
    (g.W.Sink.written c.record_through.new.output) r) c.from_residual-in_err-report.ensures.1
    (job_through_failed c.args.writing j text c.args.block_delete _ _ fault
    (job_went_through c.args.writing j text c.args.block_delete _ _ c.args.verdict c.in_ok-accepted.accepted (Err fault)
    is c.in_ok-accepted.was c.in_err-report.ensures.records))

pub returns-clause-job : goal.returns-clause-job
returns-clause-job g c j text is =
    job_went_through c.args.writing j text c.args.block_delete _ _ c.args.verdict c.in_ok-accepted.accepted (Ok c.in_ok-report.report)
    is c.in_ok-accepted.was c.in_ok-report.ensures.records

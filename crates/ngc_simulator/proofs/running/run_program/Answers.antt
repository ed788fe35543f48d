use Rattle.std.proofs.Common.{Ok, Err}
use Rattle.ngc_inputs.specs.Faults.{of_run}
use Rattle.ngc_simulator.specs.DialectRuns.{RunsJob}
use Rattle.ngc_simulator.specs.Running.{Runs}
use Rattle.ngc_inputs.specs.declared.fault.AnswerFault.TheVariants as answers
use Rattle.ngc_report.proofs.Converted.{turned}
use Rattle.ngc_simulator.proofs.DialectRunLaws.{job_events_refused, job_ran_over, job_run_failed, job_run_refused}
use Rattle.ngc_simulator.proofs.RunLaws.{events_refused, run_failed, run_refused, ran_over}
use Rattle.ngc_simulator.proofs.running.run_program.Goals as goal

pub returns-in_err-lines-clause-runs : goal.returns-in_err-lines-clause-runs
returns-in_err-lines-clause-runs g c setup bytes text is =
    turned _ (answers.Events c.in_err-lines.field-0.0)
    (λ r. Runs c.args.writing setup bytes text c.args.events.now c.args.block_delete (g.W.Sink.written c.args.output.now)
    (g.W.Sink.written c.args.output.now) r) c.from_residual.ensures.1
    (events_refused g.row.A.Denot c.args.writing setup bytes text c.args.events.now c.args.block_delete _ c.args.verdict c.in_err-lines.field-0.0
    is c.in_err-lines.ensures)

pub returns-in_err-accepted-clause-runs : goal.returns-in_err-accepted-clause-runs
returns-in_err-accepted-clause-runs g c setup bytes text is =
    turned _ (answers.Check c.in_err-accepted.field-0.0)
    (λ r. Runs c.args.writing setup bytes text c.args.events.now c.args.block_delete (g.W.Sink.written c.args.output.now)
    (g.W.Sink.written c.args.output.now) r) c.from_residual-in_err-accepted.ensures.1
    (run_refused c.args.writing setup bytes text c.args.events.now c.args.block_delete _ c.in_ok-lines.lines.items c.args.verdict
    c.in_err-accepted.field-0.0 is c.in_err-accepted.was c.in_ok-lines.ensures)

pub returns-in_err-report-clause-runs : goal.returns-in_err-report-clause-runs
returns-in_err-report-clause-runs g c setup bytes text is =
    let fault = c.in_err-report.field-0.0 in
    turned _ (of_run fault)
    (λ r. Runs c.args.writing setup bytes text c.args.events.now c.args.block_delete (g.W.Sink.written c.args.output.now)
    (g.W.Sink.written c.record_run.new.output) r) c.from_residual-in_err-report.ensures.1
    (run_failed c.args.writing setup bytes text c.args.events.now c.args.block_delete _ _ fault
    (ran_over c.args.writing setup bytes text c.args.events.now c.args.block_delete _ _ c.in_ok-lines.lines.items c.as_slice.result.now c.args.verdict
    c.in_ok-accepted.accepted (Err fault) is c.in_ok-accepted.was c.in_ok-lines.ensures c.as_slice.ensures.value c.in_err-report.ensures.records))

pub returns-clause-runs : goal.returns-clause-runs
returns-clause-runs g c setup bytes text is =
    ran_over c.args.writing setup bytes text c.args.events.now c.args.block_delete _ _ c.in_ok-lines.lines.items c.as_slice.result.now c.args.verdict
    c.in_ok-accepted.accepted (Ok c.in_ok-report.report) is c.in_ok-accepted.was c.in_ok-lines.ensures c.as_slice.ensures.value
    c.in_ok-report.ensures.records

pub returns-in_err-lines-clause-job : goal.returns-in_err-lines-clause-job
returns-in_err-lines-clause-job g c j text is =
    turned _ (answers.Events c.in_err-lines.field-0.0)
    (λ r. RunsJob c.args.writing j text c.args.events.now c.args.block_delete (g.W.Sink.written c.args.output.now)
    (g.W.Sink.written c.args.output.now) r) c.from_residual.ensures.1
    (job_events_refused g.row.A.Denot c.args.writing j text c.args.events.now c.args.block_delete _ c.in_err-lines.field-0.0 c.in_err-lines.ensures)

pub returns-in_err-accepted-clause-job : goal.returns-in_err-accepted-clause-job
returns-in_err-accepted-clause-job g c j text is =
    turned _ (answers.Check c.in_err-accepted.field-0.0)
    (λ r. RunsJob c.args.writing j text c.args.events.now c.args.block_delete (g.W.Sink.written c.args.output.now)
    (g.W.Sink.written c.args.output.now) r) c.from_residual-in_err-accepted.ensures.1
    (job_run_refused c.args.writing j text c.args.events.now c.args.block_delete _ c.in_ok-lines.lines.items c.args.verdict
    c.in_err-accepted.field-0.0 is c.in_err-accepted.was c.in_ok-lines.ensures)

pub returns-in_err-report-clause-job : goal.returns-in_err-report-clause-job
returns-in_err-report-clause-job g c j text is =
    let fault = c.in_err-report.field-0.0 in
    turned _ (of_run fault)
    (λ r. RunsJob c.args.writing j text c.args.events.now c.args.block_delete (g.W.Sink.written c.args.output.now)
    (g.W.Sink.written c.record_run.new.output) r) c.from_residual-in_err-report.ensures.1
    (job_run_failed c.args.writing j text c.args.events.now c.args.block_delete _ _ fault
    (job_ran_over c.args.writing j text c.args.events.now c.args.block_delete _ _ c.in_ok-lines.lines.items c.as_slice.result.now c.args.verdict
    c.in_ok-accepted.accepted (Err fault) is c.in_ok-accepted.was c.in_ok-lines.ensures c.as_slice.ensures.value c.in_err-report.ensures.records))

pub returns-clause-job : goal.returns-clause-job
returns-clause-job g c j text is =
    job_ran_over c.args.writing j text c.args.events.now c.args.block_delete _ _ c.in_ok-lines.lines.items c.as_slice.result.now c.args.verdict
    c.in_ok-accepted.accepted (Ok c.in_ok-report.report) is c.in_ok-accepted.was c.in_ok-lines.ensures c.as_slice.ensures.value
    c.in_ok-report.ensures.records

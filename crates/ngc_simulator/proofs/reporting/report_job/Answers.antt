use Rattle.std.proofs.Common.{subst, true}
use Rattle.ngc_certificate.specs.Plans.{both_planned}
use Rattle.ngc_job.specs.Job.{commands_in}
use Rattle.ngc_inputs.specs.Faults.{of_report}
use Rattle.ngc_inputs.specs.Jobs.{IsUnmade}
use Rattle.ngc_program_report.specs.Framed.{framed_in}
use Rattle.ngc_program_report.specs.Reported.{reported}
use Rattle.ngc_report.proofs.Converted.{turned}
use Rattle.ngc_simulator.specs.Reporting.{ReportsJob}
use Rattle.ngc_simulator.proofs.ReportLaws.{fit_stopped, refusal_stopped}
use Rattle.ngc_simulator.proofs.reporting.report_job.Goals as goal

pub returns-in_err-report_fit-in-Ok-clause-reports : goal.returns-in_err-report_fit-in-Ok-clause-reports
returns-in_err-report_fit-in-Ok-clause-reports g c =
    let f = framed_in c.args.framed in
    let lines = reported c.args.text.now in
    let fault = c.in_err-report_fit-in-Ok.field-0.0 in
    let old = g.W.Sink.written c.args.output.now in
    let new = g.W.Sink.written c.report_fit.new.output in
    turned _ (of_report fault) (ReportsJob f lines c.args.request.now old new) c.from_residual.ensures.1
    (fit_stopped f lines c.args.request.now (both_planned f.job.machine.step f.job.off (commands_in true f.job) c.in-Ok.plans) old new fault c.in-Ok.ensures.made
    c.in_err-report_fit-in-Ok.ensures.tells)

pub returns-in_err-report_refusal-in-Err-NotCleared-clause-reports : goal.returns-in_err-report_refusal-in-Err-NotCleared-clause-reports
returns-in_err-report_refusal-in-Err-NotCleared-clause-reports g c =
    let f = framed_in c.args.framed in
    let lines = reported c.args.text.now in
    let fault = c.in_err-report_refusal-in-Err-NotCleared.field-0.0 in
    let refused = c.in-Err-NotCleared in
    let old = g.W.Sink.written c.args.output.now in
    let new = g.W.Sink.written c.report_refusal.new.output in
    turned _ (of_report fault) (ReportsJob f lines c.args.request.now old new) c.from_residual-in_err-report_refusal-in-Err-NotCleared.ensures.1
    (refusal_stopped f lines c.args.request.now refused.setting refused.command old new fault
    (subst (IsUnmade f.job c.args.request.now.cuts) refused.field-0-is refused.ensures.made) c.in_err-report_refusal-in-Err-NotCleared.ensures.tells)

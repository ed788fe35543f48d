use Rattle.ngc_file_figures.specs.Files.{values_of}
use Rattle.ngc_canonical.specs.Interpreter.{setup_of}
use Rattle.ngc_certificate_text.specs.declared.piece.Setting.TheVariants.{Off, On}
use Rattle.ngc_inputs.proofs.JobLaws.{if_known}
use Rattle.ngc_line_reader.specs.ProgramView.{text_in}
use Rattle.ngc_program_report.specs.Framed.{framed_in}
use Rattle.ngc_program_report.specs.Reported.{own_lines}
use Rattle.ngc_simulator.proofs.ReportLaws.{job_faults, job_reported, job_unread, rejected}
use Rattle.ngc_simulator.proofs.reporting.report_program.Goals as goal

pub returns-in-Err-clause-reports : goal.returns-in-Err-clause-reports
returns-in-Err-clause-reports g c =
    let setup = setup_of c.args.machine c.args.tools in
    let refusal = c.in-Err.refusal in
    if_known _ _ _ (λ bytes is_text. rejected setup bytes c.args.request.now (text_in c.in_ok-program.program) refusal.setting refusal.fault
    c.report_rejection.result _ _ is_text c.in_ok-program.ensures.readings c.in-Err.ensures.job c.report_rejection.ensures.memory
    (c.report_rejection.ensures.reports setup bytes is_text)) c.in_ok-program.ensures.text

pub returns-clause-reports : goal.returns-clause-reports
returns-clause-reports g c =
    let setup = setup_of c.args.machine c.args.tools in
    if_known _ _ _ (λ bytes is_text. job_reported setup bytes c.args.request.now (text_in c.in_ok-program.program) (framed_in c.in-Ok.framed) is_text
    c.in_ok-program.ensures.readings c.in-Ok.ensures.job (c.in-Ok.ensures.frames Off) (c.in-Ok.ensures.frames On) _ _ c.report_job.result
    c.report_job.ensures.reports) c.in_ok-program.ensures.text

pub returns-clause-source : goal.returns-clause-source
returns-clause-source g c =
    job_unread (framed_in c.in-Ok.framed) (own_lines (values_of c.args.request.now.figures) (text_in c.in_ok-program.program).lines) c.args.request.now _ _ c.report_job.result _ c.report_job.ensures.reports

pub returns-clause-faults : goal.returns-clause-faults
returns-clause-faults g c =
    job_faults (framed_in c.in-Ok.framed) (own_lines (values_of c.args.request.now.figures) (text_in c.in_ok-program.program).lines) c.args.request.now _ _ c.report_job.result c.report_job.ensures.reports

use Rattle.ngc_line_reader.specs.ProgramView.{text_in}
use Rattle.ngc_simulator.proofs.ReportLaws.{rejection_stopped, told_rejection}
use Rattle.ngc_simulator.proofs.reporting.report_rejection.Goals as goal

pub returns-in-Ok-clause-reports : goal.returns-in-Ok-clause-reports
returns-in-Ok-clause-reports g c = λ setup bytes is_text why.
    told_rejection setup bytes c.args.request.now (text_in c.args.program.now) c.args.setting c.in-At.line c.args.fault is_text why c.has_deleted_lines-named.result
    c.in-At.fault _ _
    c.in-At.is c.has_deleted_lines-named.ensures c.in-Ok.ensures.ok

pub returns-in-Err-clause-reports : goal.returns-in-Err-clause-reports
returns-in-Err-clause-reports g c = λ setup bytes is_text why.
    rejection_stopped setup bytes c.args.request.now (text_in c.args.program.now) c.args.setting c.in-At.line c.args.fault is_text why
    c.has_deleted_lines-named.result c.in-At.fault _ _ c.in-Err.fault
    c.in-At.is c.has_deleted_lines-named.ensures c.in-Err.ensures.fault

use Rattle.ngc_machine_files.specs.Machine.{file_of}
use Rattle.ngc_machine_files.specs.Tools.{tools_of}
use Rattle.ngc_program_report.specs.Coordinates.{history_of}
use Rattle.ngc_program_report.specs.Reported.{reported}
use Rattle.ngc_program_report.proofs.JobTexts.{first_as}
use Rattle.ngc_program_report.proofs.WritingLaws.{writes_as}
use Rattle.ngc_program_report.proofs.job_report.report_first.Goals as goal

pub returns : goal.returns
returns g c =
    let h = c.args.history.now in
    writes_as c.write_refused.ensures
    (first_as c.args.job.now c.args.request.now.form c.args.request.now.origins c.args.setting c.args.command (reported c.args.text.now)
    (history_of h.start h.changes.items) c.has_deleted_lines-named.result (file_of c.machine.result.now) (tools_of c.tools.result.now) c.is_on.result
    c.commands-commands.result.now c.has_deleted_lines-named.ensures c.machine.ensures.value c.tools.ensures c.is_on.ensures c.commands-commands.ensures)

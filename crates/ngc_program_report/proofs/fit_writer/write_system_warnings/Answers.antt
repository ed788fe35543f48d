use Rattle.std.proofs.Common.{List, ap}
use Rattle.ngc_machine_files.specs.Machine.{file_of}
use Rattle.ngc_machine_files.specs.declared.tools.Tool.{Tool}
use Rattle.ngc_origin_warnings.specs.Warnings.{origin_warnings}
use Rattle.ngc_program_report.proofs.WritingLaws.{stops, then, writes_text}
use Rattle.ngc_program_report.proofs.fit_writer.write_system_warnings.Goals as goal

pub returns-in_err-write_box_warnings : goal.returns-in_err-write_box_warnings
returns-in_err-write_box_warnings g c =
    stops _ _ c.from_residual.ensures.0 c.in_err-write_box_warnings.ensures.fault c.in_err-write_box_warnings.ensures.counts

pub returns : goal.returns
returns g c =
    let m = file_of c.args.subject.now.machine.now in
    let h = c.args.execution.now.history.now in
    let cs = c.args.execution.now.commands.now in
    let origins = ap (λ (ts : List Tool). origin_warnings c.args.subject.now.form m ts h.start h.changes.items cs) c.tools-table.ensures.tools in
    then _ _ c.in_ok-write_box_warnings.ensures.ok c.in_ok-write_box_warnings.ensures.counts
    (writes_text _ _ origins c.write_origin_warnings.ensures.ok c.write_origin_warnings.ensures.fault c.write_origin_warnings.ensures.counts)

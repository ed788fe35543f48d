use Rattle.std.proofs.Common.{ap}
use Rattle.ngc_machine_files.specs.Machine.{file_of}
use Rattle.ngc_program_report.specs.Coordinates.{history_of}
use Rattle.ngc_program_report.specs.Texts.{missing_at}
use Rattle.ngc_program_report.proofs.WritingLaws.{stops, then}
use Rattle.ngc_program_report.proofs.WrittenLaws.{appends_as, begins_as}
use Rattle.ngc_program_report.proofs.refusal_writer.write_setting_refusals.Goals as goal

pub returns-in_err-write_heading : goal.returns-in_err-write_heading
returns-in_err-write_heading g c = stops _ _ c.from_residual.ensures.0 c.in_err-write_heading.ensures.fault c.in_err-write_heading.ensures.counts

pub returns-in_err-write_missing : goal.returns-in_err-write_missing
returns-in_err-write_missing g c =
    let h = c.args.execution.now.history.now in
    let first = ap (missing_at c.args.subject.now.form c.args.subject.now.origins.now (file_of c.args.subject.now.machine.now)
    c.args.execution.now.commands.now (history_of h.start h.changes.items)) c.first_of.ensures in
    then _ _ c.in_ok-write_heading.ensures.ok c.in_ok-write_heading.ensures.counts
    (stops _ _ c.from_residual-in_err-write_missing.ensures.0 (begins_as _ _ _ _ first c.in_err-write_missing.ensures.fault) c.in_err-write_missing.ensures.counts)

pub returns-in_err-write_obstacles : goal.returns-in_err-write_obstacles
returns-in_err-write_obstacles g c =
    let h = c.args.execution.now.history.now in
    let first = ap (missing_at c.args.subject.now.form c.args.subject.now.origins.now (file_of c.args.subject.now.machine.now)
    c.args.execution.now.commands.now (history_of h.start h.changes.items)) c.first_of.ensures in
    then _ _ c.in_ok-write_heading.ensures.ok c.in_ok-write_heading.ensures.counts
    (then _ _ (appends_as _ _ _ _ first c.in_ok-write_missing.ensures.ok) c.in_ok-write_missing.ensures.counts
    (stops _ _ c.from_residual-in_err-write_obstacles.ensures.0 c.in_err-write_obstacles.ensures.fault c.in_err-write_obstacles.ensures.counts))

pub returns : goal.returns
returns g c =
    let h = c.args.execution.now.history.now in
    let first = ap (missing_at c.args.subject.now.form c.args.subject.now.origins.now (file_of c.args.subject.now.machine.now)
    c.args.execution.now.commands.now (history_of h.start h.changes.items)) c.first_of.ensures in
    then _ _ c.in_ok-write_heading.ensures.ok c.in_ok-write_heading.ensures.counts
    (then _ _ (appends_as _ _ _ _ first c.in_ok-write_missing.ensures.ok) c.in_ok-write_missing.ensures.counts
    (then _ _ c.in_ok-write_obstacles.ensures.ok c.in_ok-write_obstacles.ensures.counts c.write_setting_warnings.ensures))

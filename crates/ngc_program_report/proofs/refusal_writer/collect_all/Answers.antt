use Rattle.std.proofs.Common.{None}
use Rattle.std.specs.Prelude.{is_some}
use Rattle.ngc_fixed_length.specs.Grid.{grid}
use Rattle.ngc_certificate.specs.PieceFault.{place_fault}
use Rattle.ngc_frames.proofs.CollectedTexts.{both, first_stopped}
use Rattle.ngc_machine_files.specs.Machine.{file_of}
use Rattle.ngc_report.specs.Forms.{report_text}
use Rattle.ngc_report.specs.Reports.{refusals_head}
use Rattle.ngc_program_report.specs.Coordinates.{history_of}
use Rattle.ngc_program_report.specs.Texts.{command_refusals}
use Rattle.ngc_program_report.proofs.refusal_writer.collect_all.Goals as goal

pub returns-in-Err-clause-text : goal.returns-in-Err-clause-text
returns-in-Err-clause-text g c =
    let m = file_of c.args.subject.now.machine.now in
    first_stopped (g.W.Sink.written c.args.output.now) (g.W.Sink.written c.collect_refusals_head.new.sink) c.args.chunk.now
    (report_text c.args.subject.now.form (refusals_head m c.args.execution.now.commands.now (is_some (place_fault m None (grid m.step m.start))) c.args.indices.now))
    (command_refusals c.args.subject.now.form c.args.subject.now.origins.now m c.args.execution.now.commands.now (history_of c.args.execution.now.history.now.start c.args.execution.now.history.now.changes.items) c.args.indices.now)
    (rw c.is_start_refused-start.ensures at c.in-Err.ensures.told)

pub returns-clause-text : goal.returns-clause-text
returns-clause-text g c =
    let m = file_of c.args.subject.now.machine.now in
    both c.collect_refusals.result (g.W.Sink.written c.args.output.now) (g.W.Sink.written c.collect_refusals_head.new.sink)
    (g.W.Sink.written c.collect_refusals.new.output) c.args.chunk.now c.collect_refusals_head.new.chunk c.collect_refusals.new.chunk
    (report_text c.args.subject.now.form (refusals_head m c.args.execution.now.commands.now (is_some (place_fault m None (grid m.step m.start))) c.args.indices.now))
    (command_refusals c.args.subject.now.form c.args.subject.now.origins.now m c.args.execution.now.commands.now (history_of c.args.execution.now.history.now.start c.args.execution.now.history.now.changes.items) c.args.indices.now)
    (rw c.is_start_refused-start.ensures at c.in-Ok.ensures.told) c.collect_refusals.ensures.text

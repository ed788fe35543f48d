use Rattle.std.proofs.Common.{None, Some, ap₂, Option}
use Rattle.ngc_commands.specs.declared.movement.Way.{Way}
use Rattle.ngc_frames.specs.InForce.{frame_in_force}
use Rattle.ngc_frames.specs.declared.in_force.FrameInForce.{FrameInForce}
use Rattle.ngc_frames.proofs.CollectedTexts.{both, collects_as, first_stopped}
use Rattle.ngc_machine_files.specs.Machine.{file_of}
use Rattle.ngc_report.specs.Forms.{report_text}
use Rattle.ngc_report.specs.Reports.{scene_lines}
use Rattle.ngc_findings.specs.Scenes.{scene_at}
use Rattle.ngc_program_report.specs.Coordinates.{coordinates_text, refused_path}
use Rattle.ngc_program_report.proofs.refusal_writer.collect_refusal.Goals as goal

pub returns-in-Err-clause-text : goal.returns-in-Err-clause-text
returns-in-Err-clause-text g c =
    let m = file_of c.args.subject.now.machine.now in
    let cs = c.args.execution.now.commands.now in
    let k = c.args.command in
    let h = c.args.execution.now.history.now in
    first_stopped (g.W.Sink.written c.args.output.now) (g.W.Sink.written c.collect_refused_command.new.sink) c.args.chunk.now
    (report_text c.args.subject.now.form (scene_lines m k None (scene_at m cs k)))
    (coordinates_text c.args.subject.now.form c.args.subject.now.origins.now (frame_in_force h.start h.changes.items k) (refused_path cs (Some k)))
    c.in-Err.ensures.told

pub returns-clause-text : goal.returns-clause-text
returns-clause-text g c =
    let m = file_of c.args.subject.now.machine.now in
    let cs = c.args.execution.now.commands.now in
    let k = c.args.command in
    let h = c.args.execution.now.history.now in
    let is = ap₂ (λ (f : FrameInForce) (w : Option Way). coordinates_text c.args.subject.now.form c.args.subject.now.origins.now f w)
    c.in_force-frame.ensures.frame c.refused_path-way.ensures in
    both c.collect_coordinates.result (g.W.Sink.written c.args.output.now) (g.W.Sink.written c.collect_refused_command.new.sink)
    (g.W.Sink.written c.collect_coordinates.new.output) c.args.chunk.now c.collect_refused_command.new.chunk c.collect_coordinates.new.chunk
    (report_text c.args.subject.now.form (scene_lines m k None (scene_at m cs k)))
    (coordinates_text c.args.subject.now.form c.args.subject.now.origins.now (frame_in_force h.start h.changes.items k) (refused_path cs (Some k)))
    c.in-Ok.ensures.told
    (collects_as _ _ _ _ _ _ _ is c.collect_coordinates.ensures.text)

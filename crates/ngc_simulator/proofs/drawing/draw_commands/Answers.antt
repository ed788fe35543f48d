use Rattle.std.proofs.Common.{[], Err, ap}
use Rattle.ngc_machine_files.specs.Machine.{file_of}
use Rattle.ngc_program_report.specs.Framed.{history_in}
use Rattle.ngc_simulator.specs.Drawing.{DrawsCommands, IsMadeRefusal, IsPictureOf}
use Rattle.ngc_inputs.specs.Faults.{of_picture}
use Rattle.ngc_simulator.proofs.DrawLaws.{drawing_stopped, drawn, no_memory}
use Rattle.ngc_report.proofs.Converted.{turned}
use Rattle.ngc_simulator.proofs.drawing.draw_commands.Goals as goal

pub returns-in_err-refusal-clause-draws : goal.returns-in_err-refusal-clause-draws
returns-in_err-refusal-clause-draws g c =
    let machine = file_of c.args.machine.now in
    let frames = history_in c.args.framed.now.frames in
    let commands = c.args.framed.now.commands.items in
    turned _ (of_picture c.in_err-refusal.field-0.0)
    (DrawsCommands machine c.args.look frames commands (g.W.Sink.written c.args.output.now) (g.W.Sink.written c.args.output.now)) c.from_residual.ensures.1
    (no_memory (IsPictureOf machine c.args.look [] (IsMadeRefusal machine) frames commands) _ c.in_err-refusal.field-0.0 c.in_err-refusal.ensures)

pub returns-in_err-write_svg-clause-draws : goal.returns-in_err-write_svg-clause-draws
returns-in_err-write_svg-clause-draws g c =
    let machine = file_of c.args.machine.now in
    let frames = history_in c.args.framed.now.frames in
    let commands = c.args.framed.now.commands.items in
    turned _ (of_picture c.in_err-write_svg.field-0.0)
    (DrawsCommands machine c.args.look frames commands (g.W.Sink.written c.args.output.now) (g.W.Sink.written c.write_svg.new.sink))
    c.from_residual-in_err-write_svg.ensures.1
    (drawing_stopped machine c.args.look [] (IsMadeRefusal machine) frames _ _ commands c.as_slice-commands.result.now c.new-none.result _ _
    c.in_err-write_svg.field-0.0 c.as_slice-commands.ensures.value c.new-none.ensures c.in_ok-refusal.ensures c.work_origin-work.ensures
    c.in_err-write_svg.ensures.fault (λ is. c.in_err-write_svg.ensures.memory (ap Err is)))

pub returns-clause-draws : goal.returns-clause-draws
returns-clause-draws g c =
    let machine = file_of c.args.machine.now in
    let frames = history_in c.args.framed.now.frames in
    let commands = c.args.framed.now.commands.items in
    drawn machine c.args.look [] (IsMadeRefusal machine) frames _ _ commands c.as_slice-commands.result.now c.new-none.result _ _
    c.as_slice-commands.ensures.value c.new-none.ensures c.in_ok-refusal.ensures c.work_origin-work.ensures c.in_ok-write_svg.ensures.ok

use Rattle.std.proofs.Common.{Err, ap}
use Rattle.ngc_certificate_text.specs.Certificate.{entries_at}
use Rattle.ngc_certificate_text.specs.Contents.{certificate_data}
use Rattle.ngc_machine_files.specs.Machine.{file_of}
use Rattle.ngc_program_report.specs.Framed.{history_in}
use Rattle.ngc_simulator.specs.Drawing.{DrawsCertified, IsNamedRefusal, setting_of}
use Rattle.ngc_inputs.specs.Faults.{of_picture}
use Rattle.ngc_inputs.specs.declared.fault.AnswerFault.TheVariants as answers
use Rattle.ngc_simulator.proofs.DrawLaws.{certificate_refused, certified_stopped, drawing_stopped, drawn, named_refusal, same_entries}
use Rattle.ngc_report.proofs.Converted.{turned}
use Rattle.ngc_simulator.proofs.drawing.draw_commands_by.Goals as goal

pub returns-in_err-refusal-clause-draws : goal.returns-in_err-refusal-clause-draws
returns-in_err-refusal-clause-draws g c =
    let machine = file_of c.args.machine.now in
    let certificate = certificate_data c.args.certificate.now in
    let frames = history_in c.args.framed.now.frames in
    let commands = c.args.framed.now.commands.items in
    turned _ (answers.Check c.in_err-refusal.field-0.0)
    (DrawsCertified machine c.args.block_delete c.args.look certificate frames commands (g.W.Sink.written c.args.output.now) (g.W.Sink.written c.args.output.now))
    c.from_residual.ensures.1
    (certificate_refused machine c.args.block_delete c.args.look certificate frames commands c.as_slice-commands.result.now _ c.in_err-refusal.field-0.0
    c.as_slice-commands.ensures.value c.in_err-refusal.ensures)

pub returns-in_err-write_svg-clause-draws : goal.returns-in_err-write_svg-clause-draws
returns-in_err-write_svg-clause-draws g c =
    let machine = file_of c.args.machine.now in
    let certificate = certificate_data c.args.certificate.now in
    let frames = history_in c.args.framed.now.frames in
    let commands = c.args.framed.now.commands.items in
    let setting = setting_of c.args.block_delete in
    turned _ (of_picture c.in_err-write_svg.field-0.0)
    (DrawsCertified machine c.args.block_delete c.args.look certificate frames commands (g.W.Sink.written c.args.output.now) (g.W.Sink.written c.write_svg.new.sink))
    c.from_residual-in_err-write_svg.ensures.1
    (certified_stopped machine c.args.block_delete c.args.look certificate frames commands _ _ c.in_err-write_svg.field-0.0
    (drawing_stopped machine c.args.look (entries_at setting certificate) (IsNamedRefusal machine setting certificate) frames _ _ commands c.as_slice-commands.result.now
    c.motions-motions.result.now _ _ c.in_err-write_svg.field-0.0 c.as_slice-commands.ensures.value
    (same_entries certificate c.setting_of.result setting c.motions-motions.result.now c.motions-motions.ensures c.setting_of.ensures)
    (named_refusal machine setting certificate c.as_slice-commands.result.now c.in_ok-refusal.refusal c.in_ok-refusal.ensures) c.work_origin-work.ensures
    c.in_err-write_svg.ensures.fault (λ is. c.in_err-write_svg.ensures.memory (ap Err is))))

pub returns-clause-draws : goal.returns-clause-draws
returns-clause-draws g c =
    let machine = file_of c.args.machine.now in
    let certificate = certificate_data c.args.certificate.now in
    let frames = history_in c.args.framed.now.frames in
    let commands = c.args.framed.now.commands.items in
    let setting = setting_of c.args.block_delete in
    drawn machine c.args.look (entries_at setting certificate) (IsNamedRefusal machine setting certificate) frames _ _ commands c.as_slice-commands.result.now
    c.motions-motions.result.now _ _ c.as_slice-commands.ensures.value (same_entries certificate c.setting_of.result setting c.motions-motions.result.now c.motions-motions.ensures c.setting_of.ensures)
    (named_refusal machine setting certificate c.as_slice-commands.result.now c.in_ok-refusal.refusal c.in_ok-refusal.ensures) c.work_origin-work.ensures
    c.in_ok-write_svg.ensures.ok

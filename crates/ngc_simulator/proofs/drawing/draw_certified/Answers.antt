use Rattle.ngc_canonical.specs.Interpreter.{setup_of}
use Rattle.ngc_certificate_text.specs.Contents.{certificate_data}
use Rattle.ngc_line_reader.specs.ProgramView.{text_in}
use Rattle.ngc_simulator.specs.Drawing.{DrawsNamed}
use Rattle.ngc_inputs.specs.declared.fault.AnswerFault.TheVariants as answers
use Rattle.ngc_simulator.proofs.DrawLaws.{drawn_named, refused_program}
use Rattle.ngc_report.proofs.Converted.{turned}
use Rattle.ngc_inputs.proofs.JobLaws.{keeps_same}
use Rattle.ngc_simulator.proofs.drawing.draw_certified.Goals as goal

pub returns-in_err-framed-clause-draws : goal.returns-in_err-framed-clause-draws
returns-in_err-framed-clause-draws g c = λ bytes text is_text have said.
    turned _ (answers.Program c.in_err-framed.field-0.0)
    (DrawsNamed (setup_of c.args.machine.now c.args.tools.now) bytes text c.args.block_delete c.args.look (g.W.Sink.written c.args.output.now)
    (g.W.Sink.written c.args.output.now)) c.from_residual.ensures.1 (
      certificate_data c.args.certificate.now,
      said,
      (
        refused_program (setup_of c.args.machine.now c.args.tools.now) bytes c.args.block_delete
            (text_in c.args.program.now) c.in_err-framed.field-0.0 is_text have c.in_err-framed.ensures.commands,
        keeps_same _,
      ),
    )

pub returns-clause-draws : goal.returns-clause-draws
returns-clause-draws g c = λ bytes text is_text have said.
    let framed = c.in_ok-framed.framed in
    drawn_named (setup_of c.args.machine.now c.args.tools.now) bytes text c.args.block_delete c.args.look (text_in c.args.program.now)
    (certificate_data c.args.certificate.now) framed.commands.items framed.frames.start framed.frames.changes.items _ _ c.draw_commands_by.result is_text have
    c.in_ok-framed.ensures.commands (c.in_ok-framed.ensures.start, c.in_ok-framed.ensures.changes) said c.draw_commands_by.ensures.draws

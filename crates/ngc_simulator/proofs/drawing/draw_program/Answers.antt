use Rattle.std.proofs.Common.{[]}
use Rattle.ngc_canonical.specs.Interpreter.{setup_of}
use Rattle.ngc_line_reader.specs.ProgramView.{text_in}
use Rattle.ngc_simulator.specs.Drawing.{DrawsProgram, IsMadeRefusal}
use Rattle.ngc_inputs.specs.declared.fault.AnswerFault.TheVariants as answers
use Rattle.ngc_simulator.proofs.DrawLaws.{drawn_file, refused_program}
use Rattle.ngc_report.proofs.Converted.{turned}
use Rattle.ngc_inputs.proofs.JobLaws.{keeps_same}
use Rattle.ngc_simulator.proofs.drawing.draw_program.Goals as goal

pub returns-in_err-framed-clause-draws : goal.returns-in_err-framed-clause-draws
returns-in_err-framed-clause-draws g c = λ bytes is_text have.
    turned _ (answers.Program c.in_err-framed.field-0.0)
    (DrawsProgram (setup_of c.args.machine.now c.args.tools.now) bytes c.args.block_delete c.args.look (g.W.Sink.written c.args.output.now)
    (g.W.Sink.written c.args.output.now)) c.from_residual.ensures.1 (
      refused_program (setup_of c.args.machine.now c.args.tools.now) bytes c.args.block_delete
          (text_in c.args.program.now) c.in_err-framed.field-0.0 is_text have c.in_err-framed.ensures.commands,
      keeps_same _,
    )

pub returns-clause-draws : goal.returns-clause-draws
returns-clause-draws g c = λ bytes is_text have.
    let setup = setup_of c.args.machine.now c.args.tools.now in
    let framed = c.in_ok-framed.framed in
    drawn_file setup bytes c.args.block_delete c.args.look [] (IsMadeRefusal setup.machine) (text_in c.args.program.now) framed.commands.items framed.frames.start
    framed.frames.changes.items _ _ c.draw_commands.result is_text have c.in_ok-framed.ensures.commands
    (c.in_ok-framed.ensures.start, c.in_ok-framed.ensures.changes) c.draw_commands.ensures.draws

use Rattle.ngc_canonical.specs.Interpreter.{setup_of}
use Rattle.ngc_line_reader.specs.ProgramView.{text_in}
use Rattle.ngc_inputs.specs.declared.fault.AnswerFault.TheVariants as answers
use Rattle.ngc_inputs.proofs.JobLaws.{keeps_same}
use Rattle.ngc_report.proofs.Converted.{turned}
use Rattle.ngc_simulator.specs.Mapping.{MapsProgram}
use Rattle.ngc_simulator.proofs.DrawLaws.{refused_program}
use Rattle.ngc_simulator.proofs.MapLaws.{mapped_program}
use Rattle.ngc_simulator.proofs.mapping.map_program.Goals as goal

pub returns-in_err-commands-clause-maps : goal.returns-in_err-commands-clause-maps
returns-in_err-commands-clause-maps g c = λ bytes is_text have.
    let setup = setup_of c.args.shop.now.machine c.args.shop.now.tools in
    turned _ (answers.Program c.in_err-commands.field-0.0)
    (MapsProgram c.args.most c.args.shop.now.figures.tools.items setup bytes c.args.block_delete (g.W.Sink.written c.args.output.now)
    (g.W.Sink.written c.args.output.now)) c.from_residual.ensures.1 (
      refused_program setup bytes c.args.block_delete (text_in c.args.program.now) c.in_err-commands.field-0.0 is_text have
          c.in_err-commands.ensures.commands,
      keeps_same _,
    )

pub returns-clause-maps : goal.returns-clause-maps
returns-clause-maps g c = λ bytes is_text have.
    let setup = setup_of c.args.shop.now.machine c.args.shop.now.tools in
    mapped_program c.args.most _ setup bytes c.args.block_delete (text_in c.args.program.now) c.in_ok-commands.commands.items c.as_slice.result.now _ _
    c.map_commands.result c.as_slice.ensures.value is_text have c.in_ok-commands.ensures.commands
    (rw (← c.as_slice-table.ensures.value) c.map_commands.ensures.maps)

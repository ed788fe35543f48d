use Rattle.std.proofs.Common.{IfSome}
use Rattle.ngc_canonical.specs.Interpreter.{setup_of}
use Rattle.ngc_simulator.specs.Lists.{Lists}
use Rattle.ngc_inputs.specs.declared.fault.AnswerFault.TheVariants as answers
use Rattle.ngc_report.proofs.Converted.{turned}
use Rattle.ngc_simulator.proofs.ListLaws.{write_stopped}
use Rattle.ngc_simulator.proofs.lister.list.Goals as goal

pub returns-in_err-write_list-clause-lists : goal.returns-in_err-write_list-clause-lists
returns-in_err-write_list-clause-lists g c =
    let setup = setup_of c.args.machine.now c.args.tools.now in
    turned _ (answers.Write c.in_err-write_list.field-0.0)
    (λ r. IfSome (g.R.Source.remaining c.args.source.now)
    (λ bytes. Lists setup bytes c.args.block_delete (g.W.Sink.written c.args.output.now) (g.W.Sink.written c.write_list.new.sink) r))
    c.from_residual-in_err-write_list.ensures.1
    (write_stopped setup (g.R.Source.remaining c.args.source.now) c.args.block_delete (g.W.Sink.written c.args.output.now)
    (g.W.Sink.written c.write_list.new.sink) _ _ c.as_slice.result.now _
    c.as_slice.ensures.value c.in_ok-program.ensures.text c.in_ok-program.ensures.readings c.in_ok-commands.ensures.commands c.in_err-write_list.ensures.fault)

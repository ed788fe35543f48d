use Rattle.std.proofs.Common.{rules, Ok, Err, ap, refl, subst, ◌++◌, ◌∙◌}
use Rattle.ngc_simulator.specs.Answers.{ResultsBy}
use Rattle.ngc_inputs.specs.Faults.{fault_line}
use Rattle.ngc_program_report.specs.Times.{time_line}
use Rattle.ngc_simulator.specs.declared.done.Done.{Done}
use Rattle.ngc_simulator.specs.declared.done.Done.TheVariants.{RunThrough}
use Rattle.ngc_simulator.proofs.ReportSink.{took_text}
use Rattle.ngc_simulator.proofs.program.answer.Goals as goal

pub returns-clause-answers : goal.returns-clause-answers
returns-clause-answers g c = record {
  outcome = Err c.in-Err.fault;
  comes = search rules;
  unread = c.in-Err.ensures.unread;
  counts = c.in-Err.ensures.sink;
  says = c.status.ensures;
  tells =
      took_text c.write_out-in-Err.result _ _ _ (c.add_fault_line.ensures ∙ ap (λ l. l ++ fault_line c.in-Err.fault) c.new-chunk-in-Err.ensures)
      c.write_out-in-Err.ensures.ok c.write_out-in-Err.ensures.fault c.write_out-in-Err.ensures.counts;
}

pub returns-in-Ok-RunThrough-clause-answers : goal.returns-in-Ok-RunThrough-clause-answers
returns-in-Ok-RunThrough-clause-answers g c = record {
  outcome = Ok (RunThrough c.in-Ok-RunThrough.time);
  comes = subst (λ (d : Done). ResultsBy (g.F.Files.bytes c.args.files.now) c.args.options.now (g.W.Sink.written c.args.output.now)
      (g.W.Sink.written c.run_command.new.output) (Ok d)) c.in-Ok-RunThrough.field-0-is c.in-Ok-RunThrough.ensures.comes;
  unread = c.in-Ok-RunThrough.ensures.unread;
  counts = c.in-Ok-RunThrough.ensures.sink;
  says = refl;
  tells =
      took_text c.write_out.result _ _ _ (c.add_time_line.ensures ∙ ap (λ l. l ++ time_line c.in-Ok-RunThrough.time) c.new-chunk.ensures) c.write_out.ensures.ok
      c.write_out.ensures.fault c.write_out.ensures.counts;
}

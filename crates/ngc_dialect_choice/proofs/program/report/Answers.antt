use Rattle.std.proofs.Common.{ap, ◌++◌, ◌∙◌}
use Rattle.ngc_inputs.specs.Faults.{fault_line}
use Rattle.ngc_inputs.specs.declared.fault.AnswerFault.TheVariants.{Input as Unread}
use Rattle.ngc_simulator.proofs.ReportSink.{took_text}
use Rattle.ngc_dialect_choice.proofs.program.report.Goals as goal

pub returns : goal.returns
returns g c =
    took_text c.write_out.result _ _ _ (c.add_fault_line.ensures ∙ ap (λ l. l ++ fault_line (Unread c.args.fault)) c.new-chunk.ensures)
    c.write_out.ensures.ok c.write_out.ensures.fault c.write_out.ensures.counts

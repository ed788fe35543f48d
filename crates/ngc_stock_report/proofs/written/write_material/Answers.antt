use Rattle.ngc_stock_report.specs.Texts.{material_text}
use Rattle.ngc_stock_report.proofs.Prefixes.{begins_first, both_written, on_err, second_fault}
use Rattle.ngc_stock_report.proofs.written.write_material.Goals as goal

pub returns-in_err-write_overlaps-clause-fault : goal.returns-in_err-write_overlaps-clause-fault
unfolding material_text
returns-in_err-write_overlaps-clause-fault g c = on_err _ _ (begins_first _ _ _ _ c.in_err-write_overlaps.ensures.fault)

pub returns-clause-ok : goal.returns-clause-ok
unfolding material_text
returns-clause-ok g c =
    both_written c.write_walked.result (g.W.Sink.written c.args.output.now) (g.W.Sink.written c.write_overlaps.new.output)
    (g.W.Sink.written c.write_walked.new.output) _ _ c.in_ok-write_overlaps.ensures.ok c.write_walked.ensures.ok

pub returns-clause-fault : goal.returns-clause-fault
unfolding material_text
returns-clause-fault g c =
    second_fault c.write_walked.result (g.W.Sink.written c.args.output.now) (g.W.Sink.written c.write_overlaps.new.output)
    (g.W.Sink.written c.write_walked.new.output) _ _ c.in_ok-write_overlaps.ensures.ok c.write_walked.ensures.fault

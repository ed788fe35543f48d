use Rattle.std.proofs.Common.{OnErr, List, ℕ, ap₂, subst, sym, ◌∙◌}
use Rattle.ngc_text.specs.Written.{AppendsPrefix}
use Rattle.ngc_fault_texts.specs.Explanations.{column_line}
use Rattle.ngc_fault_texts.proofs.WrittenProgress.{column_same}
use Rattle.ngc_fault_texts.proofs.explaining.write_column.Goals as goal

pub returns-in-Some-Some-clause-fault : goal.returns-in-Some-Some-clause-fault
returns-in-Some-Some-clause-fault g c =
    let P : List ℕ → Type 0 = λ text. OnErr c.write_texts.result
    (AppendsPrefix (g.W.Sink.written c.args.output.now) (g.W.Sink.written c.write_texts.new.output) text) in
    subst P (column_same _ _ _ _ c.as_bytes.ensures.value c.as_bytes-in-Some-Some.ensures.value ∙ sym (ap₂ column_line c.in-Some-Some.is-0 c.in-Some-Some.is-1))
    c.write_texts.ensures.fault

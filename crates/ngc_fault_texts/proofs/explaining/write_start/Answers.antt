use Rattle.std.proofs.Common.{OnOk, OnErr, List, ℕ, subst, ◌∙◌}
use Rattle.std.specs.Io.KnownBytes.{Appends}
use Rattle.ngc_text.specs.Written.{AppendsPrefix}
use Rattle.ngc_fault_texts.proofs.WrittenProgress.{beginning_same}
use Rattle.ngc_fault_texts.proofs.explaining.write_start.Goals as goal

pub returns-clause-ok : goal.returns-clause-ok
returns-clause-ok g c =
    let P : List ℕ → Type 0 = λ text. OnOk c.write_texts.result
    (Appends (g.W.Sink.written c.args.output.now) (g.W.Sink.written c.write_texts.new.output) text) in
    subst P (beginning_same _ _ _ _ _ _ _ _ _ _ (c.as_bytes.ensures.value ∙ c.format.ensures.text) c.as_bytes-2.ensures.value c.as_bytes-3.ensures.value
    c.as_bytes-4.ensures.value c.as_bytes-5.ensures.value)
    c.write_texts.ensures.ok

pub returns-clause-fault : goal.returns-clause-fault
returns-clause-fault g c =
    let P : List ℕ → Type 0 = λ text. OnErr c.write_texts.result
    (AppendsPrefix (g.W.Sink.written c.args.output.now) (g.W.Sink.written c.write_texts.new.output) text) in
    subst P (beginning_same _ _ _ _ _ _ _ _ _ _ (c.as_bytes.ensures.value ∙ c.format.ensures.text) c.as_bytes-2.ensures.value c.as_bytes-3.ensures.value
    c.as_bytes-4.ensures.value c.as_bytes-5.ensures.value)
    c.write_texts.ensures.fault

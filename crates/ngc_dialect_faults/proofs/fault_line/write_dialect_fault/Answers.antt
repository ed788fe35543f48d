use Rattle.ngc_sentences.proofs.Said.{then, whole, IsWritten}
use Rattle.ngc_dialect_faults.proofs.fault_line.write_dialect_fault.Goals as goal

pub returns : goal.returns
returns g c =
    let all = whole c.new-page.ensures (then (rw c.beginning.ensures at c.say.ensures) c.say_fault.ensures) c.finish.ensures in
    record { ok = all.ok; fault = all.fault; counts = all.counts }

use Rattle.ngc_sentences.proofs.Said.{whole}
use Rattle.ngc_dialect_faults.proofs.fault_line.write_cause.Goals as goal

pub returns : goal.returns
returns g c =
    let all = whole c.new-page.ensures c.say_between.ensures c.finish.ensures in
    record { ok = all.ok; fault = all.fault; counts = all.counts }

use Rattle.ngc_sentences.proofs.Said.{then, whole, IsWritten}
use Rattle.ngc_limit_warnings.proofs.written.write_limit_warnings.Goals as goal

pub returns : goal.returns
returns g c =
    let all = whole c.new-page.ensures (then (then c.say_kind.ensures c.say_kind-2.ensures) c.say_kind-3.ensures) c.finish.ensures in
    record { ok = all.ok; fault = all.fault; counts = all.counts }

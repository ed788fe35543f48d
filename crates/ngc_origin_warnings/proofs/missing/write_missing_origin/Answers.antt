use Rattle.ngc_sentences.proofs.Said.{whole, IsWritten}
use Rattle.ngc_origin_warnings.proofs.missing.write_missing_origin.Goals as goal

pub returns : goal.returns
returns g c =
    let all = whole c.new-page.ensures c.say_if_missing.ensures c.finish.ensures in
    record { ok = all.ok; fault = all.fault; counts = all.counts }

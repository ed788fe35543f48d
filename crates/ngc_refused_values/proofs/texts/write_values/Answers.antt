use Rattle.ngc_sentences.proofs.Said.{whole}
use Rattle.ngc_refused_values.proofs.texts.write_values.Goals as goal

pub returns : goal.returns
returns g c =
    let all = whole c.new-page.ensures c.say_value_line.ensures c.finish.ensures in
    record { ok = all.ok; fault = all.fault; counts = all.counts }

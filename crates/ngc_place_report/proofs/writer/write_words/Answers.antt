use Rattle.ngc_sentences.proofs.Said.{whole}
use Rattle.ngc_place_report.proofs.writer.write_words.Goals as goal

pub returns : goal.returns
returns g c =
    let all = whole c.new-page.ensures (rw (c.origin_in-origin.ensures) at c.say_words.ensures) c.finish.ensures in
    record { ok = all.ok; fault = all.fault; counts = all.counts }

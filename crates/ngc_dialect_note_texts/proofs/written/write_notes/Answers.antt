use Rattle.ngc_sentences.proofs.Said.{whole}
use Rattle.ngc_dialect_note_texts.proofs.written.write_notes.Goals as goal

pub returns : goal.returns
returns g c =
    let all = whole c.new-page.ensures c.say_all.ensures c.finish.ensures in
    record { ok = all.ok; fault = all.fault; counts = all.counts }

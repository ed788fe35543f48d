use Rattle.ngc_sentences.proofs.Said.{whole}
use Rattle.ngc_machine_maker.proofs.file.write_notes.Goals as goal

pub returns : goal.returns
returns g c =
    let all = whole c.new-page.ensures c.say_notes.ensures c.finish.ensures in
    record { ok = all.ok; fault = all.fault; counts = all.counts }

use Rattle.ngc_sentences.proofs.Said.{whole}
use Rattle.ngc_machine_writer.proofs.file.write_written_file.Goals as goal

pub returns : goal.returns
returns g c =
    let all = whole c.new-page.ensures c.say_file.ensures c.finish.ensures in
    record { ok = all.ok; fault = all.fault; counts = all.counts }

use Rattle.ngc_sentences.proofs.Said.{whole}
use Rattle.ngc_material_report.proofs.cuts.write_cuts.Goals as goal

pub returns : goal.returns
returns g c =
    let all = whole c.new-page.ensures c.say_cuts.ensures c.finish.ensures in
    record { ok = all.ok; fault = all.fault; counts = all.counts }

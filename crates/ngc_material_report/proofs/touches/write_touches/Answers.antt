use Rattle.ngc_sentences.proofs.Said.{then, whole}
use Rattle.ngc_material_report.proofs.touches.write_touches.Goals as goal

pub returns : goal.returns
returns g c =
    let all = whole c.new-page.ensures (then c.say_traverses.ensures c.say_motions.ensures) c.finish.ensures in
    record { ok = all.ok; fault = all.fault; counts = all.counts }

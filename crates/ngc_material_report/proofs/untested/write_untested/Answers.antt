use Rattle.ngc_sentences.proofs.Said.{then, whole}
use Rattle.ngc_material_report.proofs.untested.write_untested.Goals as goal

pub returns : goal.returns
returns g c =
    let all = whole c.new-page.ensures (then c.say_margin.ensures c.say_tools.ensures) c.finish.ensures in
    record { ok = all.ok; fault = all.fault; counts = all.counts }

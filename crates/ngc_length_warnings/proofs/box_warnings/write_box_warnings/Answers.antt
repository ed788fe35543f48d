use Rattle.ngc_sentences.proofs.Said.{then, whole}
use Rattle.ngc_length_warnings.proofs.box_warnings.write_box_warnings.Goals as goal

pub returns : goal.returns
returns g c =
    let all = whole c.new-page.ensures (then c.say_kind.ensures c.say_kind-2.ensures) c.finish.ensures in
    record { ok = all.ok; fault = all.fault; counts = all.counts }

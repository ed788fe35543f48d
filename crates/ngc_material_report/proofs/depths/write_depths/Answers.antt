use Rattle.std.proofs.Common.{ap, Option}
use Rattle.ngc_stock.specs.declared.below.AllBelow.{AllBelow}
use Rattle.ngc_sentences.proofs.Said.{then, says_as, whole}
use Rattle.ngc_material_report.specs.Sentences.{below_text}
use Rattle.ngc_material_report.proofs.depths.write_depths.Goals as goal

pub returns : goal.returns
returns g c =
    let below = says_as c.say_below.ensures (ap (λ (o : Option AllBelow). below_text c.args.form o) c.find_below-below.ensures) in
    let all = whole c.new-page.ensures (then c.say_changes.ensures below) c.finish.ensures in
    record { ok = all.ok; fault = all.fault; counts = all.counts }

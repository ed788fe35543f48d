use Rattle.ngc_sentences.proofs.Said.{then}
use Rattle.ngc_material_report.specs.Sentences.{change_fact}
use Rattle.ngc_material_report.proofs.changes.say_fact.Goals as goal

pub returns : goal.returns
unfolding change_fact
returns g c = then c.say_low_fact.ensures c.say_place_fact.ensures

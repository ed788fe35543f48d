use Rattle.ngc_material_report.specs.Sentences.{margin_fact}
use Rattle.ngc_material_report.proofs.untested.say_margin_fact.Goals as goal

pub returns : goal.returns
unfolding margin_fact
returns g c = rw (← c.whole_margin.ensures) c.say.ensures

use Rattle.ngc_material_report.specs.Sentences.{kind_fact}
use Rattle.ngc_material_report.proofs.touches.say_kind_fact.Goals as goal

pub returns : goal.returns
unfolding kind_fact
returns g c = rw (← c.kind_part.ensures, ← c.certain.ensures) c.say.ensures

use Rattle.ngc_material_report.specs.Sentences.{depth_fact}
use Rattle.ngc_material_report.proofs.touches.say_depth_fact.Goals as goal

pub returns : goal.returns
unfolding depth_fact
returns g c = rw (← c.index.ensures, ← c.number.ensures) c.say.ensures

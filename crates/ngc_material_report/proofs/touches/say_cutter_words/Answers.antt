use Rattle.ngc_material_report.specs.Sentences.{cutter_words}
use Rattle.ngc_material_report.proofs.touches.say_cutter_words.Goals as goal

pub returns : goal.returns
unfolding cutter_words
returns g c = rw (← c.number.ensures) c.say.ensures

use Rattle.ngc_material_report.specs.Sentences.{above_words}
use Rattle.ngc_material_report.proofs.touches.say_above_words.Goals as goal

pub returns : goal.returns
unfolding above_words
returns g c = rw (← c.number.ensures) c.say.ensures

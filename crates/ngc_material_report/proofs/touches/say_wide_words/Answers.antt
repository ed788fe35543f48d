use Rattle.ngc_material_report.specs.Sentences.{wide_words}
use Rattle.ngc_material_report.proofs.touches.say_wide_words.Goals as goal

pub returns : goal.returns
unfolding wide_words
returns g c = rw (← c.diameter.ensures) c.say.ensures
